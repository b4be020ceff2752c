-- A file can spell each table that a sound tree becomes, by the same breaking.
use Rattle.std.proofs.Common.{◌≡◌, ◌∙◌, ◌⊎◌, ℕ, zero, suc, ◌+◌, ◌≤◌, Option, Some, None, List, [], ◌∷◌, ◌++◌, map, length}
use Rattle.std.proofs.Common.{get_or, Contains, refl, sym, ap, subst, inl, inr, arith}
use Rattle.std.specs.List.{AllByRecursion, AllPairs, flat_map}
use Rattle.std.specs.List.Sorted.{IsPermutation}
use Rattle.std.proofs.lemmas.List.{length-map, length-append, get_or-map}
use Rattle.std.proofs.lemmas.List.Elements.{recursion_from_All, All-contains, Contains-append_cases, Contains-append_right}
use Rattle.std.proofs.lemmas.List.Sorted.{Contains-permutation, IsPermutation-sym, length_permutation}
use Rattle.tl_base.specs.declared.breaking.Breaking.{Breaking}
use Rattle.tl_base.specs.declared.limits.TheConstants.{MAX_CELLS}
use Rattle.tl_base.proofs.Members.{All-from_Contains, map-Contains, Contains-map, Contains-first, Contains-cases, Contains-none}
use Rattle.tl_base.proofs.Members.{AllByRecursion-append}
use Rattle.tl_grid.specs.declared.shape.Place.{Place}
use Rattle.tl_grid.specs.Slots.{IsFilledToLeft}
use Rattle.tl_grid.proofs.Laws.{all_filled}
use Rattle.tl_tree.specs.Outline.{block_outline, cell_outline, outline}
use Rattle.tl_tree.specs.Sound.{AreSound, IsSound as IsSoundTree}
use Rattle.tl_tree.specs.declared.node.Block.{Block, out-Block}
use Rattle.tl_tree.specs.declared.node.Block.TheOpen as open_block
use Rattle.tl_tree.specs.declared.node.CellNode.{CellNode, out-CellNode}
use Rattle.tl_tree.specs.declared.node.TableNode.{TableNode, out-TableNode}
use Rattle.tl_table.specs.declared.cell.Content.{Content, out-Content}
use Rattle.tl_table.specs.declared.cell.Content.TheOpen as open_content
use Rattle.tl_table.specs.declared.cell.Table.{Table, out-Table}
use Rattle.tl_table.specs.declared.cell.TableCell.{TableCell, out-TableCell}
use Rattle.tl_table.specs.Formed.{OpenBlock, BecomesContent, BecomeContents, BecomesCell, BecomeCells, BecomeCaption, BecomesBy}
use Rattle.tl_table.specs.Formed.{Becomes, BecomesWithin, caption_rows, cells_written, lowered, shape_of}
use Rattle.tl_table.specs.Tables.{ComesBefore, OpenContent, OpenTable, place_of, places_of, tables_in, tables_of}
use Rattle.tl_table.proofs.SoundNodes.{open_outline, block_outline-out, cell_flow, flat_groups, shape_spans, sound_each}
use Rattle.tl_table.proofs.SoundNodes.{table_caption, table_groups}
use Rattle.tl_table.proofs.SoundParts.{joined-each}
use Rattle.tl_table.specs.Spellable.{AreCaption, AreSpellableBlocks, IsRowCell, IsSpellable, IsSpellableBlock, IsSpellableBy}
use Rattle.tl_table.specs.Spellable.{IsSpellableWithin}

-- a caption takes one row at most
one_row : (caption : Option (List Block)) → caption_rows caption ≤ 1
one_row None = omega arith
one_row (Some flow) = omega arith

-- ---- what cells come from

-- the cell of a tree that a cell comes from
comes_from : (forms : TableNode → Table → Type 0) (breaking : Breaking) (nodes : List CellNode) (cells : List TableCell) →
    BecomeCells forms breaking nodes cells →
    AllByRecursion (λ node. AreSound (cell_outline node)) nodes → (c : TableCell) → Contains cells c →
    (node : CellNode) × BecomesCell forms breaking (out-CellNode node) (out-TableCell c) × AreSound (cell_outline node)
comes_from forms breaking nodes [] become sound c has = absurd (Contains-none c has)
comes_from forms breaking [] (d ∷ cells) become sound c has = absurd become
comes_from forms breaking (node ∷ nodes) (d ∷ cells) become sound c has = elim (Contains-cases d cells c has) [
  | inl here ↦ (node, subst (λ e. BecomesCell forms breaking (out-CellNode node) (out-TableCell e)) here become.0, sound.0)
  | inr later ↦ comes_from forms breaking nodes cells become.1 sound.1 c later
]

-- ---- blocks

module _ (breaking : Breaking) (forms : TableNode → Table → Type 0) (spellable : Table → Type 0)
    (inside : (node : TableNode) (table : Table) → forms node table → AreSound (outline node) → spellable table) where
  -- a file can spell the paragraphs of the blocks, and the tables
  abbrev CanSpell : List Content → Type 0
  CanSpell blocks = AreSpellableBlocks breaking blocks ×
      AllByRecursion spellable (flat_map (λ block. tables_of (out-Content block)) blocks)

  block_spelt : (o : OpenBlock) (d : OpenContent) → BecomesContent forms breaking o d → AreSound (open_outline o) →
      IsSpellableBlock breaking d × AllByRecursion spellable (tables_of d)
  block_spelt (open_block.Para words) (open_content.Para units) become sound = ((words, sound.in_range.0, become), tt)
  block_spelt (open_block.Para words) (open_content.Table box) become sound = absurd become
  block_spelt (open_block.Table nbox) (open_content.Para units) become sound = absurd become
  block_spelt (open_block.Table nbox) (open_content.Table box) become sound =
      (tt, (inside nbox.value box.value become sound, tt))

  flow_spelt : (flow : List Block) (blocks : List Content) → BecomeContents forms breaking flow blocks →
      AllByRecursion (λ block. AreSound (block_outline block)) flow → CanSpell blocks
  flow_spelt [] [] become sound = (tt, tt)
  flow_spelt [] (block ∷ blocks) become sound = absurd become
  flow_spelt (node ∷ flow) [] become sound = absurd become
  flow_spelt (node ∷ flow) (block ∷ blocks) become sound =
      let one = block_spelt (out-Block node) (out-Content block) become.0 (subst AreSound (block_outline-out node) sound.0) in
      let rest = flow_spelt flow blocks become.1 sound.1 in (
        (one.0, rest.0),
        AllByRecursion-append spellable (tables_of (out-Content block))
            (flat_map (λ other. tables_of (out-Content other)) blocks) one.1 rest.1,
      )

  -- ---- a table

  module _ (node : TableNode) (made : Table) (sound : AreSound (outline node))
      (becomes : BecomesBy forms breaking (out-TableNode node) (out-Table made)) where
    abbrev table : OpenTable
    table = out-Table made

    abbrev down : ℕ
    down = caption_rows (out-TableNode node).caption

    never_before : (p : Place) → ComesBefore p p → ⊥
    never_before p (inl lower) = omega arith
    never_before p (inr beside) = omega (arith, beside.1)

    split_at : (caption : Option (List Block)) (above : List TableCell) →
        BecomeCaption forms breaking table.cols caption above →
        IsPermutation (above ++ becomes.written) table.cells → (below : List TableCell) × (table.cells ≡ above ++ below)
        × ((c : TableCell) → Contains above c → Contains below c → ⊥)
    split_at None above captioned moved = (
      table.cells,
      ap (λ (cs : List TableCell). cs ++ table.cells) (sym captioned),
      λ c has other. Contains-none c (subst (λ (cs : List TableCell). Contains cs c) captioned has),
    )
    split_at (Some flow) [] captioned moved = absurd captioned
    split_at (Some flow) (cap ∷ above) captioned moved = first table.cells becomes.in_order
        (Contains-permutation ((cap ∷ above) ++ becomes.written) table.cells cap moved
        (Contains-first cap (above ++ becomes.written)))
      where
        place : place_of cap ≡ record { left = 0; right = table.cols; top = 0; bottom = 1 }
        place = captioned.0.place

        first : (cells : List TableCell) → AllPairs ComesBefore (map place_of cells) → Contains cells cap →
            (below : List TableCell) × (cells ≡ (cap ∷ above) ++ below) ×
            ((c : TableCell) → Contains (cap ∷ above) c → Contains below c → ⊥)
        first [] pairs has = absurd (Contains-none cap has)
        first (c ∷ cells) pairs (zero, within, is) = (
          cells,
          ap (λ (d : TableCell). d ∷ cells) is ∙ ap (λ (cs : List TableCell). cap ∷ (cs ++ cells)) (sym captioned.1),
          λ d here later. by_cases d (Contains-cases cap above d here) later,
        )
          where
            by_cases : (d : TableCell) → (cap ≡ d) ⊎ Contains above d → Contains cells d → ⊥
            by_cases d (inr later) other = Contains-none d (subst (λ (cs : List TableCell). Contains cs d) captioned.1 later)
            by_cases d (inl same) (k, inside, at) =
                let order = pairs 0 (suc k) (place_of d) (omega arith) (let long = length-map cells place_of in omega arith) in
                let there : get_or (map place_of cells) k (place_of d) ≡ place_of d =
                get_or-map place_of cells k d (place_of d) inside ∙ ap place_of at in
                never_before (place_of d) (subst (λ p. ComesBefore p (place_of d)) (ap place_of (is ∙ same))
                (subst (ComesBefore (place_of c)) there order))
        first (c ∷ cells) pairs (suc k, within, is) = absurd (
            let long = length-map cells place_of in
            let order = pairs 0 (suc k) (place_of cap) (omega arith) (omega arith) in
            let there : get_or (map place_of cells) k (place_of cap) ≡ place_of cap =
            get_or-map place_of cells k cap (place_of cap) (omega arith)
            ∙ ap place_of is in
            let order' : ComesBefore (place_of c) (record { left = 0; right = table.cols; top = 0; bottom = 1 }) =
            subst (ComesBefore (place_of c))
            (there ∙ place) order in
            elim order' [
              | inl lower ↦ omega arith
              | inr beside ↦ omega (arith, beside.1)
            ])

    below_and : (below : List TableCell) × (table.cells ≡ becomes.caption ++ below) ×
        ((c : TableCell) → Contains becomes.caption c → Contains below c → ⊥)
    below_and = split_at (out-TableNode node).caption becomes.caption becomes.captioned becomes.same

    abbrev below : List TableCell
    below = below_and.0

    -- each cell is the caption or one of those written
    whose : (c : TableCell) → Contains table.cells c → Contains becomes.caption c ⊎ Contains becomes.written c
    whose c has = Contains-append_cases becomes.caption becomes.written c
        (Contains-permutation table.cells (becomes.caption ++ becomes.written) c (IsPermutation-sym _ _ becomes.same) has)

    -- the cells below the caption are those written
    below_written : (c : TableCell) → Contains below c → Contains becomes.written c
    below_written c has =
        elim (whose c (subst (λ (cs : List TableCell). Contains cs c) (sym below_and.1)
        (Contains-append_right becomes.caption below c has))) [
          | inl above ↦ absurd (below_and.2 c above has)
          | inr written ↦ written
        ]

    captions : (caption : Option (List Block)) (cells : List TableCell) →
        BecomeCaption forms breaking table.cols caption cells →
        AreCaption table.cols cells × (length cells ≡ caption_rows caption)
    captions None cells is = (
      subst (AreCaption table.cols) (sym is) tt,
      ap length is,
    )
    captions (Some flow) [] is = absurd is
    captions (Some flow) (cap ∷ cells) is = (
      (record { kind = is.0.kind; place = is.0.place; least = omega (arith, is.0.least) }, is.1),
      ap (λ (cs : List TableCell). length (cap ∷ cs)) is.1,
    )

    caption_spelt : (caption : Option (List Block)) (cells : List TableCell) → (out-TableNode node).caption ≡ caption →
        BecomeCaption forms breaking table.cols caption cells → (c : TableCell) → Contains cells c →
        CanSpell (out-TableCell c).blocks × ((place_of c).left ≡ 0)
    caption_spelt None cells at is c has =
        absurd (Contains-none c (subst (λ (cs : List TableCell). Contains cs c) is has))
    caption_spelt (Some flow) [] at is c has = absurd is
    caption_spelt (Some flow) (cap ∷ cells) at is c has = elim (Contains-cases cap cells c has) [
      | inl here ↦ subst (λ (d : TableCell). CanSpell (out-TableCell d).blocks × ((place_of d).left ≡ 0)) here (
        flow_spelt flow (out-TableCell cap).blocks is.0.blocks
            (sound_each block_outline flow (table_caption node flow at sound)),
        ap (λ (p : Place). p.left) is.0.place,
      )
      | inr later ↦ absurd (Contains-none c (subst (λ (cs : List TableCell). Contains cs c) is.1 later))
    ]

    from : (c : TableCell) → Contains becomes.written c →
        (cell : CellNode) × BecomesCell forms breaking (out-CellNode cell) (out-TableCell c) × AreSound (cell_outline cell)
    from c has = comes_from forms breaking (cells_written (out-TableNode node)) becomes.written becomes.cells
        (flat_groups (out-TableNode node).groups (table_groups node sound)) c has

    cell_spelt : (c : TableCell) → Contains table.cells c → CanSpell (out-TableCell c).blocks
    cell_spelt c has = elim (whose c has) [
      | inl above ↦ (caption_spelt (out-TableNode node).caption becomes.caption refl becomes.captioned c above).0
      | inr written ↦
          let is = from c written in
          flow_spelt (out-CellNode is.0).flow (out-TableCell c).blocks is.1.blocks
          (sound_each block_outline (out-CellNode is.0).flow (cell_flow is.0 is.2))
    ]

    -- all slots to the left of a cell are covered in its first row
    filled : (p : Place) → Contains (places_of table) p → IsFilledToLeft (places_of table) p
    filled p has x lt =
        let at = map-Contains place_of table.cells p has in
        elim (whose at.0 at.1) [
          | inl above ↦
              let edge = (caption_spelt (out-TableNode node).caption becomes.caption refl becomes.captioned at.0 above).1 in
              let left : (place_of at.0).left ≡ p.left = ap (λ (q : Place). q.left) at.2 in
              absurd (omega (arith, lt))
          | inr written ↦
              let up = map-Contains (lowered down) becomes.grid.places (place_of at.0)
              (subst (λ (ps : List Place). Contains ps (place_of at.0)) becomes.places
              (Contains-map place_of becomes.written at.0 written)) in
              let q = up.0 in
              let left : q.left ≡ p.left = ap (λ (r : Place). r.left) (up.2 ∙ at.2) in
              let top : q.top + down ≡ p.top = ap (λ (r : Place). r.top) (up.2 ∙ at.2) in
              let any = All-contains (IsFilledToLeft becomes.grid.places) becomes.grid.places q
              (all_filled (shape_of (out-TableNode node)) becomes.grid (shape_spans node sound) becomes.has_grid) up.1 x
              (omega (arith, lt)) in
              let there = in_table any.1 (any.0, any.2, any.3) in (
                there.0,
                lowered down any.1,
                there.1,
                there.2,
                (any.4.0, any.4.1, omega (arith, any.4.2, top), omega (arith, any.4.3, top)),
              )
        ]
      where
        in_table : (r : Place) → Contains becomes.grid.places r → Contains (places_of table) (lowered down r)
        in_table r there =
            let cell = map-Contains place_of becomes.written (lowered down r)
            (subst (λ (ps : List Place). Contains ps (lowered down r)) (sym becomes.places)
            (Contains-map (lowered down) becomes.grid.places r there)) in
            let all = Contains-permutation (becomes.caption ++ becomes.written) table.cells cell.0 becomes.same
            (Contains-append_right becomes.caption becomes.written cell.0 cell.1) in
            subst (Contains (places_of table)) cell.2 (Contains-map place_of table.cells cell.0 all)

    few : length below ≤ MAX_CELLS
    few =
        let c : length table.cells ≡ length (becomes.caption ++ below) = ap length below_and.1 in
        let d : length (becomes.caption ++ below) ≡ length becomes.caption + length below = length-append becomes.caption below in
        let e : length table.cells ≡ length (becomes.caption ++ becomes.written) =
        length_permutation (becomes.caption ++ becomes.written) table.cells becomes.same in
        let f : length (becomes.caption ++ becomes.written) ≡ length becomes.caption + length becomes.written =
        length-append becomes.caption becomes.written in
        let g : length (map place_of becomes.written) ≡ length becomes.written = length-map becomes.written place_of in
        let h : length (map place_of becomes.written) ≡ length (map (lowered down) becomes.grid.places) =
        ap length becomes.places in
        let i : length (map (lowered down) becomes.grid.places) ≡ length becomes.grid.places =
        length-map becomes.grid.places (lowered down) in
        let j = becomes.has_grid.places.as_many in
        let l = becomes.has_grid.few_cells in
        omega arith

    pub table_spelt : IsSpellableBy spellable breaking table
    table_spelt =
        let caption = captions (out-TableNode node).caption becomes.caption becomes.captioned in
        record {
          caption = becomes.caption;
          body = below;
          split = below_and.1;
          captioned = caption.0;
          in_rows = recursion_from_All IsRowCell below (All-from_Contains IsRowCell below (λ c has.
              let is = from c (below_written c has) in ((out-CellNode is.0).head, is.1.kind)));
          few_rows = omega (
            arith,
            becomes.rows,
            caption.1,
            one_row (out-TableNode node).caption,
            becomes.has_grid.rows,
            becomes.has_grid.few_rows,
          );
          few_cells = omega (arith, few);
          filled = All-from_Contains (IsFilledToLeft (places_of table)) (places_of table) filled;
          words = recursion_from_All (λ c. AreSpellableBlocks breaking (out-TableCell c).blocks) table.cells
              (All-from_Contains (λ c. AreSpellableBlocks breaking (out-TableCell c).blocks) table.cells
              (λ c has. (cell_spelt c has).0));
          inner = joined-each spellable (λ c. tables_in (out-TableCell c)) table.cells
              (recursion_from_All (λ c. AllByRecursion spellable (tables_in (out-TableCell c))) table.cells
              (All-from_Contains (λ c. AllByRecursion spellable (tables_in (out-TableCell c))) table.cells
              (λ c has. (cell_spelt c has).1)));
        }

-- ---- all depths

spellable_within : (depth : ℕ) (breaking : Breaking) (node : TableNode) (made : Table) →
    BecomesWithin depth breaking node made → AreSound (outline node) → IsSpellableWithin depth breaking made
spellable_within zero breaking node made becomes sound = absurd becomes
spellable_within (suc depth) breaking node made becomes sound =
    table_spelt breaking (BecomesWithin depth breaking) (IsSpellableWithin depth breaking)
    (λ n t b s. spellable_within depth breaking n t b s) node made sound becomes

pub becomes_spellable : (breaking : Breaking) (node : TableNode) (made : Table) → IsSoundTree node → Becomes breaking node made →
    IsSpellable breaking made
becomes_spellable breaking node made tree becomes =
    (becomes.0, spellable_within becomes.0 breaking node made becomes.1 tree.sound)
