-- The same trees become the same table, wherever in memory nested tables lie.
use Rattle.std.proofs.Common.{◌≡◌, ◌∙◌, ℕ, zero, suc, ◌+◌, ◌<◌, ◌≤◌, Bool, max, Option, Some, None, List, [], ◌∷◌, ◌++◌, inl, inr}
use Rattle.std.proofs.Common.{length, map, get_or}
use Rattle.std.proofs.Common.{Contains, Result, Ok, Err, IfOk, IfErr, refl, sym, ap, subst, ⊎_elim, arith, alloc_error}
use Rattle.std.specs.List.{AllPairs, AllZip, AllByRecursion, flat_map}
use Rattle.std.specs.List.Sorted.{IsPermutation}
use Rattle.std.proofs.lemmas.Bool.{cases_lt}
use Rattle.std.proofs.lemmas.List.{length-map, get_or-map}
use Rattle.std.proofs.lemmas.List.Sorted.{Contains-permutation, IsPermutation-map, IsPermutation-sym}
use Rattle.tl_base.specs.Returned.{IsMemoryOr}
use Rattle.tl_base.specs.declared.breaking.Breaking.{Breaking}
use Rattle.tl_base.proofs.Members.{same-ordered}
use Rattle.tl_base.proofs.Zips.{AllZip-get_or, AllZip-append, AllZip-length, AllZip-from_places}
use Rattle.tl_grid.specs.declared.shape.Grid.{Grid}
use Rattle.tl_grid.specs.declared.shape.Place.{Place}
use Rattle.tl_grid.specs.declared.shape.Shape.{Shape}
use Rattle.tl_grid.specs.declared.shape.ShapeGroup.{ShapeGroup}
use Rattle.tl_grid.specs.declared.shape.SpanOf.{SpanOf}
use Rattle.tl_grid.specs.Form.{HasGrid}
use Rattle.tl_grid.proofs.Results.{one_grid}
use Rattle.tl_tree.specs.declared.node.Block.{Block, out-Block}
use Rattle.tl_tree.specs.declared.node.Block.TheOpen as open_block
use Rattle.tl_tree.specs.declared.node.CellNode.{CellNode, out-CellNode}
use Rattle.tl_tree.specs.declared.node.GroupNode.{GroupNode, out-GroupNode}
use Rattle.tl_tree.specs.declared.node.TableNode.{TableNode, out-TableNode}
use Rattle.tl_tree.specs.Same.{AreSameBlock, AreSameFlow, AreSameRow, AreSameGroup, AreSameCaption, AreSameTable}
use Rattle.tl_tree.specs.Same.{AreSameCell as AreSameNode}
use Rattle.tl_tree.specs.Same.{AreSameWithin as AreSameNodesWithin}
use Rattle.tl_tree.specs.Same.{AreSame as AreSameNodes}
use Rattle.tl_table.specs.declared.cell.Content.{Content, out-Content}
use Rattle.tl_table.specs.declared.cell.Content.TheOpen as open_content
use Rattle.tl_table.specs.declared.cell.Table.{Table, out-Table}
use Rattle.tl_table.specs.declared.cell.TableCell.{TableCell, out-TableCell}
use Rattle.tl_table.specs.declared.error.FormError.{FormError}
use Rattle.tl_table.specs.declared.error.FormError.TheVariants as errors
use Rattle.tl_table.specs.Tables.{OpenTable, OpenContent}
use Rattle.tl_table.specs.Formed.{OpenNode, OpenBlock, BecomesContent, BecomeContents, BecomeCells, BecomeCaption, BecomesBy}
use Rattle.tl_table.specs.Formed.{BecomesWithin, Becomes}
use Rattle.tl_table.specs.Formed.{broken, caption_rows, cells_of_group, cells_written, group_shape, is_foot, header_kind, lowered}
use Rattle.tl_table.specs.Formed.{is_thead, marks_of_group, marks_of_groups, shape_of, span_of}
use Rattle.tl_table.specs.Refused.{HasNoGrid, numbered_shapes}
use Rattle.tl_table.specs.Same.{AreSameContent, AreSameCell, AreSameBy, AreSameWithin, AreSame, ReturnsTable}
use Rattle.tl_table.specs.Tables.{ComesBefore, is_in_head, place_of}
use Rattle.tl_table.proofs.Gridless.{becomes_gridded, not_among}
use Rattle.tl_table.proofs.SoundParts.{each_joined}

-- ---- items that belong together, in another order of each list

before_once : (p q : Place) → ComesBefore p q → ComesBefore q p → ⊥
before_once p q (inl one) (inl other) = omega arith
before_once p q (inl one) (inr other) = omega (arith, other.0)
before_once p q (inr one) (inl other) = omega (arith, one.0)
before_once p q (inr one) (inr other) = omega (arith, one.1, other.1)

never_before : (p : Place) → ComesBefore p p → ⊥
never_before p one = before_once p p one one

module _ (R : TableCell → TableCell → Type 0) (placed : (x y : TableCell) → R x y → place_of x ≡ place_of y) where
  places_same : (xs ys : List TableCell) → AllZip R xs ys → map place_of xs ≡ map place_of ys
  places_same [] [] all = refl
  places_same [] (y ∷ ys) all = absurd all
  places_same (x ∷ xs) [] all = absurd all
  places_same (x ∷ xs) (y ∷ ys) all =
      ap (λ p. p ∷ map place_of xs) (placed x y all.0) ∙ ap (λ (ps : List Place). place_of y ∷ ps) (places_same xs ys all.1)

  zip_sorted : (xs ys us vs : List TableCell) → AllZip R xs ys → IsPermutation xs us → IsPermutation ys vs →
      AllPairs ComesBefore (map place_of us) →
      AllPairs ComesBefore (map place_of vs) → AllZip R us vs
  zip_sorted xs ys us vs all first second rises climbs = AllZip-from_places R us vs long each
    where
      same : map place_of xs ≡ map place_of ys
      same = places_same xs ys all

      there : IsPermutation (map place_of xs) (map place_of us)
      there = IsPermutation-map place_of xs us first

      back : IsPermutation (map place_of ys) (map place_of vs)
      back = IsPermutation-map place_of ys vs second

      ordered : map place_of us ≡ map place_of vs
      ordered = same-ordered ComesBefore before_once (map place_of us) (map place_of vs) rises climbs
          (λ p has. Contains-permutation (map place_of ys) (map place_of vs) p back
          (subst (λ (ps : List Place). Contains ps p) same (Contains-permutation (map place_of us) (map place_of xs) p
          (IsPermutation-sym _ _ there) has)))
          (λ p has. Contains-permutation (map place_of xs) (map place_of us) p there
          (subst (λ (ps : List Place). Contains ps p) (sym same)
          (Contains-permutation (map place_of vs) (map place_of ys) p (IsPermutation-sym _ _ back) has)))

      long : length us ≡ length vs
      long = omega (arith, ap length ordered, length-map us place_of, length-map vs place_of)

      each : (i : ℕ) (d e : TableCell) → i < length us → R (get_or us i d) (get_or vs i e)
      each i d e within =
          let u = get_or us i d in
          let found = Contains-permutation us xs u (IsPermutation-sym xs us first) (i, within, get_same us i u d within) in
          let k = found.0 in
          let y = get_or ys k e in
          let one : R u y = subst (λ x. R x y) found.2 (AllZip-get_or R xs ys k u e all found.1) in
          let many = AllZip-length R xs ys all in
          let has = Contains-permutation ys vs y second (k, omega (arith, found.1), get_same ys k y e (omega (arith, found.1))) in
          let j = has.0 in
          let at : get_or (map place_of vs) j (place_of e) ≡ get_or (map place_of vs) i (place_of e) =
          get_or-map place_of vs j y (place_of e) has.1 ∙ ap place_of has.2 ∙ sym (placed u y one)
          ∙ sym (get_or-map place_of us i d (place_of e) within) ∙ ap (λ (ps : List Place). get_or ps i (place_of e)) ordered in
          let here : j ≡ i = one_place j i (place_of e) (omega (arith, has.1, length-map vs place_of))
          (omega (arith, within, long, length-map vs place_of)) at in
          subst (R u) (sym has.2 ∙ get_same vs j y e has.1 ∙ ap (λ n. get_or vs n e) here) one
        where
          get_same : (zs : List TableCell) (n : ℕ) (a b : TableCell) → n < length zs → get_or zs n a ≡ get_or zs n b
          get_same [] n a b within = absurd (omega arith)
          get_same (z ∷ zs) zero a b within = refl
          get_same (z ∷ zs) (suc n) a b within = get_same zs n a b (omega arith)

          one_place : (a b : ℕ) (p : Place) → a < length (map place_of vs) → b < length (map place_of vs) →
              get_or (map place_of vs) a p ≡ get_or (map place_of vs) b p → a ≡ b
          one_place a b p in_a in_b is =
              ⊎_elim (λ (less : a < b). absurd (never_before (get_or (map place_of vs) b p)
              (subst (λ q. ComesBefore q (get_or (map place_of vs) b p)) is (climbs a b p less in_b))))
              (λ (more : b ≤ a). ⊎_elim (λ (less : b < a). absurd (never_before (get_or (map place_of vs) b p)
              (subst (ComesBefore (get_or (map place_of vs) b p)) is (climbs b a p less in_a))))
              (λ (rest : a ≤ b). omega arith) (cases_lt b a)) (cases_lt a b)

-- ---- parts of the same trees

module _ (same : TableNode → TableNode → Type 0) (some other : TableNode → Table → Type 0) (twins : Table → Table → Type 0)
    (each : (a b : TableNode) (s t : Table) → same a b → some a s → other b t → twins s t) (breaking : Breaking) where
  content_twins : (o p : OpenBlock) (c d : OpenContent) → AreSameBlock same o p → BecomesContent some breaking o c →
      BecomesContent other breaking p d →
      AreSameContent twins c d
  content_twins (open_block.Para one) (open_block.Para two) (open_content.Para units) (open_content.Para parts) is first second =
      first ∙ ap (broken breaking) is ∙ sym second
  content_twins (open_block.Para one) (open_block.Para two) (open_content.Para units) (open_content.Table box) is first second =
      absurd second
  content_twins (open_block.Para one) (open_block.Para two) (open_content.Table box) d is first second = absurd first
  content_twins (open_block.Para one) (open_block.Table two) c d is first second = absurd is
  content_twins (open_block.Table one) (open_block.Para two) c d is first second = absurd is
  content_twins (open_block.Table one) (open_block.Table two) (open_content.Para units) d is first second = absurd first
  content_twins (open_block.Table one) (open_block.Table two) (open_content.Table box) (open_content.Para parts)
      is first second = absurd second
  content_twins (open_block.Table one) (open_block.Table two) (open_content.Table box) (open_content.Table crate)
      is first second =
      each one.value two.value box.value crate.value is first second

  contents_twins : (xs ys : List Block) (cs ds : List Content) → AreSameFlow same xs ys → BecomeContents some breaking xs cs →
      BecomeContents other breaking ys ds → AllZip (λ c d. AreSameContent twins (out-Content c) (out-Content d)) cs ds
  contents_twins [] [] [] [] is first second = tt
  contents_twins [] [] [] (d ∷ ds) is first second = absurd second
  contents_twins [] [] (c ∷ cs) ds is first second = absurd first
  contents_twins [] (y ∷ ys) cs ds is first second = absurd is
  contents_twins (x ∷ xs) [] cs ds is first second = absurd is
  contents_twins (x ∷ xs) (y ∷ ys) [] ds is first second = absurd first
  contents_twins (x ∷ xs) (y ∷ ys) (c ∷ cs) [] is first second = absurd second
  contents_twins (x ∷ xs) (y ∷ ys) (c ∷ cs) (d ∷ ds) is first second = (
    content_twins (out-Block x) (out-Block y) (out-Content c) (out-Content d) is.0 first.0 second.0,
    contents_twins xs ys cs ds is.1 first.1 second.1,
  )

  are_twins : TableCell → TableCell → Type 0
  are_twins c d = AreSameCell twins (out-TableCell c) (out-TableCell d)

  cells_twins : (xs ys : List CellNode) (cs ds : List TableCell) → AreSameRow same xs ys → BecomeCells some breaking xs cs →
      BecomeCells other breaking ys ds → map is_in_head cs ≡ map is_in_head ds → map place_of cs ≡ map place_of ds →
      AllZip (λ c d. AreSameCell twins (out-TableCell c) (out-TableCell d)) cs ds
  cells_twins [] [] [] [] is first second marks places = tt
  cells_twins [] [] [] (d ∷ ds) is first second marks places = absurd second
  cells_twins [] [] (c ∷ cs) ds is first second marks places = absurd first
  cells_twins [] (y ∷ ys) cs ds is first second marks places = absurd is
  cells_twins (x ∷ xs) [] cs ds is first second marks places = absurd is
  cells_twins (x ∷ xs) (y ∷ ys) [] ds is first second marks places = absurd first
  cells_twins (x ∷ xs) (y ∷ ys) (c ∷ cs) [] is first second marks places = absurd second
  cells_twins (x ∷ xs) (y ∷ ys) (c ∷ cs) (d ∷ ds) is first second marks places = (
    record {
      kind = first.0.kind ∙ ap header_kind is.0.head ∙ sym second.0.kind;
      in_head = let here : is_in_head c ≡ is_in_head d = cc in here;
      place = let here : place_of c ≡ place_of d = cc in here;
      least = first.0.least ∙ is.0.least ∙ sym second.0.least;
      align = first.0.align ∙ is.0.align ∙ sym second.0.align;
      blocks = contents_twins (out-CellNode x).flow (out-CellNode y).flow (out-TableCell c).blocks
          (out-TableCell d).blocks is.0.flow first.0.blocks
          second.0.blocks;
    },
    cells_twins xs ys cs ds is.1 first.1 second.1 (let rest : map is_in_head cs ≡ map is_in_head ds = cc in rest)
        (let rest : map place_of cs ≡ map place_of ds = cc in rest),
  )

  caption_twins : (m n : ℕ) (one two : Option (List Block)) (cs ds : List TableCell) → m ≡ n → AreSameCaption same one two →
      BecomeCaption some breaking m one cs → BecomeCaption other breaking n two ds →
      AllZip (λ c d. AreSameCell twins (out-TableCell c) (out-TableCell d)) cs ds
  caption_twins m n None None cs ds wide is first second =
      subst (λ (none : List TableCell). AllZip (λ c d. AreSameCell twins (out-TableCell c) (out-TableCell d)) none ds) (sym first)
      (subst (λ (none : List TableCell). AllZip (λ c d. AreSameCell twins (out-TableCell c) (out-TableCell d)) [] none)
      (sym second) tt)
  caption_twins m n None (Some two) cs ds wide is first second = absurd is
  caption_twins m n (Some one) None cs ds wide is first second = absurd is
  caption_twins m n (Some one) (Some two) [] ds wide is first second = absurd first
  caption_twins m n (Some one) (Some two) (c ∷ cs) [] wide is first second = absurd second
  caption_twins m n (Some one) (Some two) (c ∷ cs) (d ∷ ds) wide is first second = (
    record {
      kind = first.0.kind ∙ sym second.0.kind;
      in_head = first.0.in_head ∙ sym second.0.in_head;
      place = first.0.place ∙ ap (λ cols. let p : Place = record { left = 0; right = cols; top = 0; bottom = 1 } in
          p) wide ∙ sym second.0.place;
      least = first.0.least ∙ sym second.0.least;
      align = first.0.align ∙ sym second.0.align;
      blocks = contents_twins one two (out-TableCell c).blocks (out-TableCell d).blocks is first.0.blocks second.0.blocks;
    },
    subst (λ (none : List TableCell). AllZip (λ a b. AreSameCell twins (out-TableCell a) (out-TableCell b)) none ds) (sym first.1)
        (subst (λ (none : List TableCell). AllZip (λ a b. AreSameCell twins (out-TableCell a) (out-TableCell b)) [] none)
        (sym second.1) tt),
  )

-- ---- the shapes and cells of the same trees

module _ (same : TableNode → TableNode → Type 0) where
  spans_same : (xs ys : List CellNode) → AreSameRow same xs ys → map span_of xs ≡ map span_of ys
  spans_same [] [] is = refl
  spans_same [] (y ∷ ys) is = absurd is
  spans_same (x ∷ xs) [] is = absurd is
  spans_same (x ∷ xs) (y ∷ ys) is =
      ap (λ (span : SpanOf). span ∷ map span_of xs) (
      ap (λ n. let s : SpanOf = record { colspan = n; rowspan = (out-CellNode x).rowspan } in s) is.0.colspan
      ∙ ap (λ n. let s : SpanOf = record { colspan = (out-CellNode y).colspan; rowspan = n } in s) is.0.rowspan
      )
      ∙ ap (λ (spans : List SpanOf). span_of y ∷ spans) (spans_same xs ys is.1)

  rows_same : (xs ys : List (List CellNode)) → AllZip (AreSameRow same) xs ys → map (map span_of) xs ≡ map (map span_of) ys
  rows_same [] [] is = refl
  rows_same [] (y ∷ ys) is = absurd is
  rows_same (x ∷ xs) [] is = absurd is
  rows_same (x ∷ xs) (y ∷ ys) is =
      ap (λ (spans : List SpanOf). spans ∷ map (map span_of) xs) (spans_same x y is.0)
      ∙ ap (λ (rows : List (List SpanOf)). map span_of y ∷ rows) (rows_same xs ys is.1)

  groups_same : (xs ys : List GroupNode) → AllZip (λ g h. AreSameGroup same (out-GroupNode g) (out-GroupNode h)) xs ys →
      map group_shape xs ≡ map group_shape ys
  groups_same [] [] is = refl
  groups_same [] (y ∷ ys) is = absurd is
  groups_same (x ∷ xs) [] is = absurd is
  groups_same (x ∷ xs) (y ∷ ys) is =
      ap (λ (shape : ShapeGroup). shape ∷ map group_shape xs) (
      ap (λ part. let s : ShapeGroup = record { foot = is_foot part; rows = map (map span_of) (out-GroupNode x).rows } in
      s) is.0.part
      ∙ ap (λ rows. let s : ShapeGroup = record { foot = is_foot (out-GroupNode y).part; rows = rows } in s)
      (rows_same (out-GroupNode x).rows (out-GroupNode y).rows is.0.rows)
      )
      ∙ ap (λ (shapes : List ShapeGroup). group_shape y ∷ shapes) (groups_same xs ys is.1)

  row_marks_same : (mark : Bool) (xs ys : List CellNode) → AreSameRow same xs ys →
      map (λ (cell : CellNode). mark) xs ≡ map (λ (cell : CellNode). mark) ys
  row_marks_same mark [] [] is = refl
  row_marks_same mark [] (y ∷ ys) is = absurd is
  row_marks_same mark (x ∷ xs) [] is = absurd is
  row_marks_same mark (x ∷ xs) (y ∷ ys) is = ap (λ (marks : List Bool). mark ∷ marks) (row_marks_same mark xs ys is.1)

  rows_marks_same : (mark : Bool) (xs ys : List (List CellNode)) → AllZip (AreSameRow same) xs ys →
      flat_map (λ (row : List CellNode). map (λ (cell : CellNode). mark) row) xs ≡
      flat_map (λ (row : List CellNode). map (λ (cell : CellNode). mark) row) ys
  rows_marks_same mark [] [] is = refl
  rows_marks_same mark [] (y ∷ ys) is = absurd is
  rows_marks_same mark (x ∷ xs) [] is = absurd is
  rows_marks_same mark (x ∷ xs) (y ∷ ys) is =
      ap (λ (marks : List Bool). marks ++ flat_map (λ (row : List CellNode). map (λ (cell : CellNode). mark) row) xs)
      (row_marks_same mark x y is.0)
      ∙ ap (λ (marks : List Bool). map (λ (cell : CellNode). mark) y ++ marks) (rows_marks_same mark xs ys is.1)

  marks_same : (xs ys : List GroupNode) → AllZip (λ g h. AreSameGroup same (out-GroupNode g) (out-GroupNode h)) xs ys →
      marks_of_groups xs ≡ marks_of_groups ys
  marks_same [] [] is = refl
  marks_same [] (y ∷ ys) is = absurd is
  marks_same (x ∷ xs) [] is = absurd is
  marks_same (x ∷ xs) (y ∷ ys) is =
      ap (λ (marks : List Bool). marks ++ marks_of_groups xs)
      (rows_marks_same (is_thead (out-GroupNode x).part) (out-GroupNode x).rows (out-GroupNode y).rows is.0.rows
      ∙ ap (λ part. flat_map (λ (row : List CellNode). map (λ (cell : CellNode). is_thead part) row) (out-GroupNode y).rows)
      is.0.part)
      ∙ ap (λ (marks : List Bool). marks_of_group (out-GroupNode y) ++ marks) (marks_same xs ys is.1)

  row_cells_same : (xs ys : List (List CellNode)) → AllZip (AreSameRow same) xs ys →
      AreSameRow same (flat_map (λ (row : List CellNode). row) xs) (flat_map (λ (row : List CellNode). row) ys)
  row_cells_same [] [] is = tt
  row_cells_same [] (y ∷ ys) is = absurd is
  row_cells_same (x ∷ xs) [] is = absurd is
  row_cells_same (x ∷ xs) (y ∷ ys) is =
      AllZip-append (λ c d. AreSameNode same (out-CellNode c) (out-CellNode d)) x (flat_map (λ (row : List CellNode). row) xs) y
      (flat_map (λ (row : List CellNode). row) ys) is.0 (row_cells_same xs ys is.1)

  group_cells_same : (xs ys : List GroupNode) → AllZip (λ g h. AreSameGroup same (out-GroupNode g) (out-GroupNode h)) xs ys →
      AreSameRow same (flat_map (λ g. cells_of_group (out-GroupNode g)) xs) (flat_map (λ g. cells_of_group (out-GroupNode g)) ys)
  group_cells_same [] [] is = tt
  group_cells_same [] (y ∷ ys) is = absurd is
  group_cells_same (x ∷ xs) [] is = absurd is
  group_cells_same (x ∷ xs) (y ∷ ys) is =
      AllZip-append (λ c d. AreSameNode same (out-CellNode c) (out-CellNode d)) (cells_of_group (out-GroupNode x))
      (flat_map (λ g. cells_of_group (out-GroupNode g)) xs) (cells_of_group (out-GroupNode y))
      (flat_map (λ g. cells_of_group (out-GroupNode g)) ys)
      (row_cells_same (out-GroupNode x).rows (out-GroupNode y).rows is.0.rows) (group_cells_same xs ys is.1)

  captions_same : (one two : Option (List Block)) → AreSameCaption same one two → caption_rows one ≡ caption_rows two
  captions_same None None is = refl
  captions_same None (Some two) is = absurd is
  captions_same (Some one) None is = absurd is
  captions_same (Some one) (Some two) is = refl

  shapes_same : (a b : OpenNode) → AreSameTable same a b → shape_of a ≡ shape_of b
  shapes_same a b is =
      ap (λ n. let s : Shape = record { columns = n; groups = map group_shape a.groups } in s) is.columns
      ∙ ap (λ groups. let s : Shape = record { columns = b.columns; groups = groups } in
      s) (groups_same a.groups b.groups is.groups)

module _ (same : TableNode → TableNode → Type 0) (some other : TableNode → Table → Type 0) (twins : Table → Table → Type 0)
    (each : (a b : TableNode) (s t : Table) → same a b → some a s → other b t → twins s t) (breaking : Breaking) where
  table_twins : (a b : OpenNode) (s t : OpenTable) → AreSameTable same a b → BecomesBy some breaking a s →
      BecomesBy other breaking b t → AreSameBy twins s t
  table_twins a b s t is first second = record {
    number = first.number ∙ is.number ∙ sym second.number;
    cols = cols;
    rows = first.rows ∙ ap (λ n. n + caption_rows a.caption) (ap (λ (g : Grid). g.rows) grids) ∙ ap (λ n. second.grid.rows + n)
        downs ∙ sym second.rows;
    cells = zip_sorted (λ c d. AreSameCell twins (out-TableCell c) (out-TableCell d)) (λ c d one. one.place)
        (first.caption ++ first.written)
        (second.caption ++ second.written) s.cells t.cells
        (AllZip-append (λ c d. AreSameCell twins (out-TableCell c) (out-TableCell d))
        first.caption first.written second.caption second.written
        (caption_twins same some other twins each breaking s.cols t.cols a.caption b.caption first.caption second.caption cols
        is.caption first.captioned
        second.captioned)
        (cells_twins same some other twins each breaking (cells_written a) (cells_written b) first.written second.written
        (group_cells_same same a.groups b.groups is.groups) first.cells second.cells marks places))
        first.same second.same first.in_order second.in_order;
  } where
    grids : first.grid ≡ second.grid
    grids = one_grid (shape_of b) first.grid second.grid (subst (λ shape. HasGrid shape first.grid) (shapes_same same a b is)
        first.has_grid) second.has_grid

    downs : caption_rows a.caption ≡ caption_rows b.caption
    downs = captions_same same a.caption b.caption is.caption

    cols : s.cols ≡ t.cols
    cols = first.cols ∙ ap (λ (g : Grid). max g.cols (caption_rows a.caption)) grids ∙ ap (max second.grid.cols)
        downs ∙ sym second.cols

    marks : map is_in_head first.written ≡ map is_in_head second.written
    marks = first.marked ∙ marks_same same a.groups b.groups is.groups ∙ sym second.marked

    places : map place_of first.written ≡ map place_of second.written
    places = first.places ∙ ap (λ n. map (lowered n) first.grid.places) downs ∙ ap
        (λ (g : Grid). map (lowered (caption_rows b.caption)) g.places) grids
        ∙ sym second.places

twins_within : (depth few many : ℕ) (breaking : Breaking) (a b : TableNode) (s t : Table) → AreSameNodesWithin depth a b →
    BecomesWithin few breaking a s →
    BecomesWithin many breaking b t → AreSameWithin depth s t
twins_within zero few many breaking a b s t is first second = absurd is
twins_within (suc depth) zero many breaking a b s t is first second = absurd first
twins_within (suc depth) (suc few) zero breaking a b s t is first second = absurd second
twins_within (suc depth) (suc few) (suc many) breaking a b s t is first second =
    table_twins (AreSameNodesWithin depth) (BecomesWithin few breaking) (BecomesWithin many breaking) (AreSameWithin depth)
    (λ x y u v one. twins_within depth few many breaking x y u v one) breaking (out-TableNode a) (out-TableNode b) (out-Table s)
    (out-Table t) is first second

-- the same trees become the same table
pub same_tables : (breaking : Breaking) (a b : TableNode) (s t : Table) → AreSameNodes a b → Becomes breaking a s →
    Becomes breaking b t → AreSame s t
same_tables breaking a b s t is first second = (is.0, twins_within is.0 first.0 second.0 breaking a b s t is.1 first.1 second.1)

-- ---- a tree that becomes a table is the same as itself

module _ (same : TableNode → TableNode → Type 0) (some : TableNode → Table → Type 0)
    (itself : (node : TableNode) (table : Table) → some node table → same node node) (breaking : Breaking) where
  block_itself : (o : OpenBlock) (content : OpenContent) → BecomesContent some breaking o content → AreSameBlock same o o
  block_itself (open_block.Para atoms) content becomes = refl
  block_itself (open_block.Table node) (open_content.Para units) becomes = absurd becomes
  block_itself (open_block.Table node) (open_content.Table box) becomes = itself node.value box.value becomes

  flow_itself : (flow : List Block) (contents : List Content) → BecomeContents some breaking flow contents →
      AreSameFlow same flow flow
  flow_itself [] contents become = tt
  flow_itself (block ∷ flow) [] become = absurd become
  flow_itself (block ∷ flow) (content ∷ contents) become =
      (block_itself (out-Block block) (out-Content content) become.0, flow_itself flow contents become.1)

  abbrev one_itself : CellNode → Type 0
  one_itself node = AreSameNode same (out-CellNode node) (out-CellNode node)

  cells_itself : (nodes : List CellNode) (cells : List TableCell) → BecomeCells some breaking nodes cells →
      AllByRecursion one_itself nodes
  cells_itself [] cells become = tt
  cells_itself (node ∷ nodes) [] become = absurd become
  cells_itself (node ∷ nodes) (cell ∷ cells) become = (
    record {
      head = refl;
      colspan = refl;
      rowspan = refl;
      least = refl;
      align = refl;
      flow = flow_itself (out-CellNode node).flow (out-TableCell cell).blocks become.0.blocks;
    },
    cells_itself nodes cells become.1,
  )

  row_itself : (row : List CellNode) → AllByRecursion one_itself row → AreSameRow same row row
  row_itself [] each = tt
  row_itself (node ∷ row) each = (each.0, row_itself row each.1)

  rows_itself : (rows : List (List CellNode)) → AllByRecursion (λ row. AllByRecursion one_itself row) rows →
      AllZip (AreSameRow same) rows rows
  rows_itself [] each = tt
  rows_itself (row ∷ rows) each = (row_itself row each.0, rows_itself rows each.1)

  groups_itself : (groups : List GroupNode) → AllByRecursion
      (λ group. AllByRecursion one_itself (cells_of_group (out-GroupNode group))) groups →
      AllZip (λ group twin. AreSameGroup same (out-GroupNode group) (out-GroupNode twin)) groups groups
  groups_itself [] each = tt
  groups_itself (group ∷ groups) each = (
    record {
      part = refl;
      rows = rows_itself (out-GroupNode group).rows
          (each_joined one_itself (λ (row : List CellNode). row) (out-GroupNode group).rows each.0);
    },
    groups_itself groups each.1,
  )

  caption_itself : (cols : ℕ) (caption : Option (List Block)) (cells : List TableCell) →
      BecomeCaption some breaking cols caption cells →
      AreSameCaption same caption caption
  caption_itself cols None cells become = tt
  caption_itself cols (Some flow) [] become = absurd become
  caption_itself cols (Some flow) (cell ∷ cells) become = flow_itself flow (out-TableCell cell).blocks become.0.blocks

  table_itself : (node : OpenNode) (table : OpenTable) → BecomesBy some breaking node table → AreSameTable same node node
  table_itself node table becomes = record {
    number = refl;
    caption = caption_itself table.cols node.caption becomes.caption becomes.captioned;
    columns = refl;
    groups = groups_itself node.groups (each_joined one_itself (λ group. cells_of_group (out-GroupNode group)) node.groups
        (cells_itself (cells_written node) becomes.written becomes.cells));
  }

within_itself : (depth : ℕ) (breaking : Breaking) (node : TableNode) (table : Table) → BecomesWithin depth breaking node table →
    AreSameNodesWithin depth node node
within_itself zero breaking node table becomes = absurd becomes
within_itself (suc depth) breaking node table becomes =
    table_itself (AreSameNodesWithin depth) (BecomesWithin depth breaking) (within_itself depth breaking) breaking
    (out-TableNode node)
    (out-Table table) becomes

-- whatever table a tree becomes, that table is returned
pub each_table : (breaking : Breaking) (node : TableNode) (result : Result Table FormError) →
    IfOk result (Becomes breaking node) →
    IfErr result (IsMemoryOr (errors.Memory alloc_error) (HasNoGrid node)) → (table : Table) → Becomes breaking node table →
    ReturnsTable table result
each_table breaking node (Ok found) ok err table becomes =
    same_tables breaking node node found table (becomes.0, within_itself becomes.0 breaking node table becomes.1) ok becomes
each_table breaking node (Err error) ok err table becomes = by_case err
  where
    by_case : IsMemoryOr (errors.Memory alloc_error) (HasNoGrid node) error → error ≡ errors.Memory alloc_error
    by_case (inl memory) = memory
    by_case (inr refused) = absurd (not_among (numbered_shapes node) error (becomes_gridded breaking node table becomes) refused)
