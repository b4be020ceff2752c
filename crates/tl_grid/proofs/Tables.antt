-- Whole tables: group after group, the footers last.
use Rattle.std.proofs.Common.{◌≡◌, ℕ, ◌+◌, ◌<◌, ◌≤◌, suc, Bool, true, false, ◌&&◌, ◌||◌, not, cond, ltb, leb, eqb, List, [], ◌∷◌}
use Rattle.std.proofs.Common.{◌++◌, map, length}
use Rattle.std.proofs.Common.{Result, Ok, Err, refl, sym, ap, ◌∙◌, subst, inl, inr, arith, append-nil}
use Rattle.std.specs.List.{filter, AllByRecursion}
use Rattle.std.proofs.lemmas.Bool.{lt-ltb, le-ltb, le-leb, ne_eqb, cases_Bool, cases_lt, cases_order, both_ways, and_left}
use Rattle.std.proofs.lemmas.Bool.{and_right, cond-true}
use Rattle.std.proofs.lemmas.Bool.{cond-false}
use Rattle.std.proofs.lemmas.List.{map-append}
use Rattle.std.proofs.lemmas.Simd.{map-map}
use Rattle.std.proofs.lemmas.List.Folds.{list_any-append}
use Rattle.tl_grid.specs.declared.shape.SpanOf.{SpanOf}
use Rattle.tl_grid.specs.declared.shape.ShapeGroup.{ShapeGroup}
use Rattle.tl_grid.specs.declared.shape.Shape.{Shape}
use Rattle.tl_grid.specs.declared.block.Block.{Block}
use Rattle.tl_grid.specs.declared.error.GridError.{GridError}
use Rattle.tl_grid.specs.Forming.{FormedCell, Forming, covers, form_rows, at_group_end, end_group, form_group, form_groups}
use Rattle.tl_grid.specs.Forming.{cells_in}
use Rattle.tl_grid.specs.Forming.{no_cells, formed}
use Rattle.tl_grid.specs.Overlap.{numbers_over}
use Rattle.tl_grid.specs.Dropping.{keeps_row}
use Rattle.tl_grid.specs.declared.table.Table.{Table}
use Rattle.tl_grid.specs.inner.OpenBlocks.{reaches}
use Rattle.tl_grid.specs.inner.Walk.{RowGroup, group_at, then_ok, place_rows, settled, after_group, place_groups, place_all}
use Rattle.tl_grid.proofs.Chains.{spot, filter_yes, filter_no, at_most_one}
use Rattle.tl_grid.proofs.Cells.{cell_of, AllQuiet, BeginsAbove, number_of, or_false, numbers-append, quiet_none}
use Rattle.tl_grid.proofs.Later.{Later, later_rows, later_end, later_groups, anchors-map, ended_elsewhere}
use Rattle.tl_grid.proofs.Rows.{IsSound, sound_on, all_weaken}
use Rattle.tl_grid.proofs.Groups.{FoundAbove, found_kept, found_on, GroupMatches, RowsGive, rows_give, AllWide, quiet_on}

-- a cell, of which only the rows that pass the test are looked at
abbrev pub mask : (ℕ → Bool) → FormedCell → FormedCell
mask keeps c = record {
  number = c.number;
  left = c.left;
  right = c.right;
  top = c.top;
  rows = λ y. keeps y && c.rows y;
  grows = false;
}

-- a block as a cell
abbrev pub whole : Block → FormedCell
whole b = record {
  number = b.number;
  left = b.left;
  right = b.right;
  top = b.top;
  rows = λ y. leb b.top y && ltb y b.bottom;
  grows = false;
}

-- the cells cover the rows with an anchor as the blocks do
abbrev pub SameWhereKept : Forming → List Block → Type 0
SameWhereKept s bs = (keeps : ℕ → Bool) → ((y : ℕ) → y < s.row → keeps y ≡ keeps_row s.cells y) →
    map (mask keeps) s.cells ≡ map (mask keeps) (map whole bs)

-- a table in the standard's steps and in the walk, between two groups
pub record TableMatches (s : Forming) (t : Table) : Type 0 where
  pub level : s.row ≡ s.height
  pub at_row : s.row ≡ t.row
  pub quiet : AllQuiet s.row s.cells
  pub one : (x y : ℕ) → length (numbers_over x y s.cells) ≤ 1
  pub anchors : (y : ℕ) → s.row ≤ y → keeps_row s.cells y ≡ false
  pub sound : AllByRecursion (IsSound s.width s.height) t.blocks
  pub pairs : SameWhereKept s t.blocks

-- where a group ends at row `row`, and the table is `height` rows high
abbrev pub ended_cell : ℕ → ℕ → Block → FormedCell
ended_cell row height b = at_group_end row height (cell_of row b)

-- a cell of an earlier group stays
still_ended : (row height : ℕ) (c : FormedCell) → c.grows ≡ false → at_group_end row height c ≡ c
still_ended row height c e = λ i. record {
  number = c.number;
  left = c.left;
  right = c.right;
  top = c.top;
  rows = λ y. (ap (λ t. c.rows y || (t && (ltb row y && ltb y height))) e ∙ or_false (c.rows y)) i;
  grows = sym e i;
}

-- so do all cells of earlier groups
still_all : (row height y : ℕ) (cs : List FormedCell) → AllQuiet y cs → map (at_group_end row height) cs ≡ cs
still_all row height y [] q = refl
still_all row height y (c ∷ cs) q =
    ap (λ d. d ∷ map (at_group_end row height) cs) (still_ended row height c q.0.still)
    ∙ ap (λ ds. c ∷ ds) (still_all row height y cs q.1)

-- the cells after a group
ended_cells : (done : List FormedCell) (s : Forming) (g : RowGroup) → GroupMatches done s g →
    (end_group s).cells ≡ done ++ map (ended_cell g.row g.height) g.blocks
ended_cells done s g m =
    ap (λ row. map (at_group_end row s.height) s.cells) m.at_row
    ∙ ap (λ height. map (at_group_end g.row height) s.cells) m.high
    ∙ ap (map (at_group_end g.row g.height)) m.cells
    ∙ map-append (at_group_end g.row g.height) done (map (cell_of g.row) g.blocks)
    ∙ ap (λ l. l ++ map (at_group_end g.row g.height) (map (cell_of g.row) g.blocks))
    (still_all g.row g.height g.row done m.quiet)
    ∙ ap (λ l. done ++ l) (map-map (at_group_end g.row g.height) (cell_of g.row) g.blocks)

-- the rows of a cell whose group has ended
rows_in_group : (g : Bool) (row height top bottom y : ℕ) → row ≤ height → bottom ≤ height → height ≤ y →
    ((leb top y && ltb y (cond g row bottom)) || (g && (ltb row y && ltb y height))) ≡ false
rows_in_group true row height top bottom y low le ge =
    ap (λ t. (leb top y && t) || (ltb row y && ltb y height)) (le-ltb y row (omega arith))
    ∙ ap (λ t. (leb top y && false) || (ltb row y && t)) (le-ltb y height ge)
    ∙ ap (λ t. t || (ltb row y && false)) (and_right (leb top y) false refl)
    ∙ and_right (ltb row y) false refl
rows_in_group false row height top bottom y low le ge =
    or_false (leb top y && ltb y bottom) ∙ and_right (leb top y) (ltb y bottom) (le-ltb y bottom (omega arith))

-- the cells of a group cover no row below its end
quiet_ended : (row height width : ℕ) → row ≤ height → (bs : List Block) →
    AllByRecursion (IsSound width height) bs → AllQuiet height (map (ended_cell row height) bs)
quiet_ended row height width low [] sound = tt
quiet_ended row height width low (b ∷ bs) sound = (
  record { still = refl; above = λ y ge. rows_in_group b.grows row height b.top b.bottom y low sound.0.3 ge },
  quiet_ended row height width low bs sound.1,
)

-- the cells of two groups
quiet_append : (y : ℕ) (cs ds : List FormedCell) → AllQuiet y cs → AllQuiet y ds → AllQuiet y (cs ++ ds)
quiet_append y [] ds q r = r
quiet_append y (c ∷ cs) ds q r = (q.0, quiet_append y cs ds q.1 r)

-- no anchor stands where the blocks begin above
no_anchor : (row height y : ℕ) (bs : List Block) → row ≤ y → AllByRecursion (BeginsAbove row) bs →
    keeps_row (map (ended_cell row height) bs) y ≡ false
no_anchor row height y [] le tops = refl
no_anchor row height y (b ∷ bs) le tops =
    ap (λ t. t || keeps_row (map (ended_cell row height) bs) y)
    (ne_eqb b.top y (λ e. let lt : b.top < row = tops.0 in omega arith))
    ∙ no_anchor row height y bs le tops.1

-- no slot has more cells than blocks
numbers_fewer : (x y : ℕ) (f : Block → FormedCell) (p : Block → Bool) →
    ((b : Block) → p b ≡ false → covers x y (f b) ≡ false) → (bs : List Block) →
    length (numbers_over x y (map f bs)) ≤ length (filter p bs)
numbers_fewer x y f p none [] = omega arith
numbers_fewer x y f p none (b ∷ bs) =
    let rest : length (numbers_over x y (map f bs)) ≤ length (filter p bs) = numbers_fewer x y f p none bs in
    elim (cases_Bool (p b)) [
      | inl e ↦
          let few : length (filter p (b ∷ bs)) ≡ suc (length (filter p bs)) = ap length (filter_yes p b bs e) in
          elim (cases_Bool (covers x y (f b))) [
            | inl t ↦
                let all : length (numbers_over x y (map f (b ∷ bs))) ≡ suc (length (numbers_over x y (map f bs))) =
                ap (λ l. length (map number_of l)) (filter_yes (covers x y) (f b) (map f bs) t) in
                omega arith
            | inr t ↦
                let all : length (numbers_over x y (map f (b ∷ bs))) ≡ length (numbers_over x y (map f bs)) =
                ap (λ l. length (map number_of l)) (filter_no (covers x y) (f b) (map f bs) t) in
                omega arith
          ]
      | inr e ↦
          let few : length (filter p (b ∷ bs)) ≡ length (filter p bs) = ap length (filter_no p b bs e) in
          let all : length (numbers_over x y (map f (b ∷ bs))) ≡ length (numbers_over x y (map f bs)) =
          ap (λ l. length (map number_of l)) (filter_no (covers x y) (f b) (map f bs) (none b e)) in
          omega arith
    ]

-- the rows of a block that ends above row y
rows_none : (g : Bool) (row height top bottom y : ℕ) → row ≤ y → (g || ltb y bottom) ≡ false →
    ((leb top y && ltb y (cond g row bottom)) || (g && (ltb row y && ltb y height))) ≡ false
rows_none true row height top bottom y ge none = absurd (both_ways true none refl)
rows_none false row height top bottom y ge none =
    or_false (leb top y && ltb y bottom) ∙ and_right (leb top y) (ltb y bottom) none

-- from the next row on a cell covers no slot that its block does not reach
ended_covers : (x y row height : ℕ) (b : Block) → row ≤ y → spot x y b ≡ false → covers x y (ended_cell row height b) ≡ false
ended_covers x y row height b ge none =
    elim (cases_Bool (leb b.left x && ltb x b.right)) [
      | inl e ↦ ap (λ t. t && (ended_cell row height b).rows y) e
          ∙ rows_none b.grows row height b.top b.bottom y ge (sym (ap (λ t. t && reaches y b) e) ∙ none)
      | inr e ↦ and_left (leb b.left x && ltb x b.right) ((ended_cell row height b).rows y) e
    ]

-- after a group no slot has two cells
one_after : (done : List FormedCell) (s : Forming) (g : RowGroup) → GroupMatches done s g → (x y : ℕ) →
    length (numbers_over x y (end_group s).cells) ≤ 1
one_after done s g m x y =
    let at_row : s.row ≡ g.row = m.at_row in
    let P : List ℕ → Type 0 = λ l. length l ≤ 1 in
    elim (cases_lt y g.row) [
      | inl above ↦ subst P (sym (ended_elsewhere x s.row s.height y (omega arith) s.cells)) (m.past x y above)
      | inr below ↦
          let C : List FormedCell → Type 0 = λ cs. length (numbers_over x y cs) ≤ 1 in
          let few : length (numbers_over x y (map (ended_cell g.row g.height) g.blocks)) ≤ length (filter (spot x y) g.blocks) =
          numbers_fewer x y (ended_cell g.row g.height) (spot x y) (λ b. ended_covers x y g.row g.height b below) g.blocks in
          let one : length (filter (spot x y) g.open_blocks) ≤ 1 = at_most_one 0 x g.row y below g.open_blocks m.chain in
          let same : length (filter (spot x y) g.blocks) ≡ length (filter (spot x y) g.open_blocks) =
          ap length (m.same x y below) in
          subst C (sym (ended_cells done s g m))
          (subst P (sym (numbers-append x y done (map (ended_cell g.row g.height) g.blocks)
          ∙ ap (λ l. l ++ numbers_over x y (map (ended_cell g.row g.height) g.blocks)) (quiet_none x g.row y below done m.quiet)))
          (omega arith))
    ]

-- the rows of a cell and of its block, where those with an anchor are kept
kept_rows_same : (keep g : Bool) (row height top bottom y : ℕ) → row ≤ height → top < row →
    (y ≡ row → row < height → keep ≡ false) →
    (keep && ((leb top y && ltb y (cond g row bottom)) || (g && (ltb row y && ltb y height)))) ≡
    (keep && (leb top y && ltb y (cond g height bottom)))
kept_rows_same false g row height top bottom y low lt gap = refl
kept_rows_same true false row height top bottom y low lt gap = or_false (leb top y && ltb y bottom)
kept_rows_same true true row height top bottom y low lt gap =
    elim (cases_order y row) [
      | inl e ↦
          elim (cases_lt row height) [
            | inl h ↦ absurd (both_ways true (gap e h) refl)
            | inr h ↦
                ap (λ t. (leb top y && t) || (ltb row y && ltb y height)) (le-ltb y row (omega arith))
                ∙ ap (λ t. t || (ltb row y && ltb y height)) (and_right (leb top y) false refl)
                ∙ ap (λ t. ltb row y && t) (le-ltb y height (omega arith)) ∙ and_right (ltb row y) false refl
                ∙ sym (ap (λ t. leb top y && t) (le-ltb y height (omega arith)) ∙ and_right (leb top y) false refl)
          ]
      | inr (inl above) ↦
          ap (λ t. (leb top y && ltb y row) || (t && ltb y height)) (le-ltb row y (omega arith))
          ∙ or_false (leb top y && ltb y row)
          ∙ ap (λ t. leb top y && t) (lt-ltb y row above ∙ sym (lt-ltb y height (omega arith)))
      | inr (inr below) ↦
          ap (λ t. (leb top y && t) || (ltb row y && ltb y height)) (le-ltb y row (omega arith))
          ∙ ap (λ t. t || (ltb row y && ltb y height)) (and_right (leb top y) false refl)
          ∙ ap (λ t. t && ltb y height) (lt-ltb row y below)
          ∙ sym (ap (λ t. t && ltb y height) (le-leb top y (omega arith)))
    ]

-- a cell and its block, where rows with an anchor are looked at
masked_same : (keeps : ℕ → Bool) (row height : ℕ) (b : Block) → row ≤ height → BeginsAbove row b →
    (row < height → keeps row ≡ false) →
    mask keeps (ended_cell row height b) ≡ mask keeps (whole (settled height b))
masked_same keeps row height b low top gap = λ i. record {
  number = b.number;
  left = b.left;
  right = b.right;
  top = b.top;
  rows = λ y. kept_rows_same (keeps y) b.grows row height b.top b.bottom y low top (λ e h. ap keeps e ∙ gap h) i;
  grows = false;
}

-- so for all blocks of a group
masked_all : (keeps : ℕ → Bool) (row height : ℕ) (bs : List Block) → row ≤ height →
    AllByRecursion (BeginsAbove row) bs → (row < height → keeps row ≡ false) →
    map (mask keeps) (map (ended_cell row height) bs) ≡ map (mask keeps) (map whole (map (settled height) bs))
masked_all keeps row height [] low tops gap = refl
masked_all keeps row height (b ∷ bs) low tops gap =
    ap (λ c. c ∷ map (mask keeps) (map (ended_cell row height) bs)) (masked_same keeps row height b low tops.0 gap)
    ∙ ap (λ cs. mask keeps (whole (settled height b)) ∷ cs) (masked_all keeps row height bs low tops.1 gap)

-- where a block ends when its group ends
settled_bottom : (g : Bool) (height bottom top : ℕ) → top < bottom → bottom ≤ height →
    (top < cond g height bottom) × (cond g height bottom ≤ height)
settled_bottom true height bottom top lt le = (omega arith, omega arith)
settled_bottom false height bottom top lt le = (lt, le)

-- a block stays sound when its group ends
settled_sound : (width height : ℕ) (bs : List Block) → AllByRecursion (IsSound width height) bs →
    AllByRecursion (IsSound width height) (map (settled height) bs)
settled_sound width height [] s = tt
settled_sound width height (b ∷ bs) s =
    let ends = settled_bottom b.grows height b.bottom b.top s.0.2 s.0.3 in
    ((s.0.0, s.0.1, ends.0, ends.1), settled_sound width height bs s.1)

-- what holds of two lists holds of both together
all_append : (P : Block → Type 0) (xs ys : List Block) → AllByRecursion P xs → AllByRecursion P ys → AllByRecursion P (xs ++ ys)
all_append P [] ys a b = b
all_append P (x ∷ xs) ys a b = (a.0, all_append P xs ys a.1 b)

-- the anchors of two groups
anchors-append : (cs ds : List FormedCell) (y : ℕ) → keeps_row (cs ++ ds) y ≡ (keeps_row cs y || keeps_row ds y)
anchors-append cs ds y = list_any-append (λ (c : FormedCell). eqb c.top y) cs ds

-- a group that is formed: from `s` on by the standard, from `t` on in the walk
pub group_ends : (s last : Forming) (t : Table) (g : RowGroup) → TableMatches s t → Later s.row s last →
    GroupMatches s.cells last g → TableMatches (end_group last) (after_group t g)
group_ends s last t g before later m =
    let at_row : last.row ≡ g.row = m.at_row in
    let high : last.height ≡ g.height = m.high in
    let low : g.row ≤ g.height = m.low in
    let start : s.row ≡ t.row = before.at_row in
    let level : s.row ≡ s.height = before.level in
    let wider : s.width ≤ last.width = later.wider in
    let on : s.row ≤ last.row = later.on in
    let cells = ended_cells s.cells last g m in
    let ended : List FormedCell = map (ended_cell g.row g.height) g.blocks in
    let C : List FormedCell → Type 0 = λ cs. AllQuiet (end_group last).row cs in
    let no_anchors : (y : ℕ) → g.row ≤ y → keeps_row (s.cells ++ ended) y ≡ false =
    λ y le. anchors-append s.cells ended y
    ∙ ap (λ v. v || keeps_row ended y) (before.anchors y (omega arith))
    ∙ no_anchor g.row g.height y g.blocks le m.tops in
    record {
      level = omega arith;
      at_row = omega arith;
      quiet = subst C (sym cells) (quiet_append (end_group last).row s.cells ended
          (quiet_on g.row (end_group last).row (omega arith) s.cells m.quiet)
          (quiet_on g.height (end_group last).row (omega arith) ended
          (quiet_ended g.row g.height last.width low g.blocks m.sound)));
      one = one_after s.cells last g m;
      anchors = λ y ge. ap (λ cs. keeps_row cs y) cells ∙ no_anchors y (omega arith);
      sound = all_append (IsSound last.width last.height) t.blocks (map (settled g.height) g.blocks)
          (all_weaken (IsSound s.width s.height) (IsSound last.width last.height)
          (sound_on s.width last.width s.height last.height wider (omega arith)) t.blocks before.sound)
          (let S : ℕ → Type 0 = λ h. AllByRecursion (IsSound last.width h) (map (settled g.height) g.blocks) in
          subst S (sym high) (settled_sound last.width g.height g.blocks m.sound));
      pairs = λ keeps same.
          ap (map (mask keeps)) cells ∙ map-append (mask keeps) s.cells ended
          ∙ ap (λ l. l ++ map (mask keeps) ended)
          (before.pairs keeps (λ y lt.
          same y (omega arith) ∙ anchors-map (at_group_end last.row last.height) (λ c. refl) last.cells y ∙ later.anchors y lt))
          ∙ ap (λ l. map (mask keeps) (map whole t.blocks) ++ l)
          (masked_all keeps g.row g.height g.blocks low m.tops
          (λ lt. same g.row (omega arith) ∙ ap (λ cs. keeps_row cs g.row) cells ∙ no_anchors g.row (omega arith)))
          ∙ sym (ap (map (mask keeps)) (map-append whole t.blocks (map (settled g.height) g.blocks))
          ∙ map-append (mask keeps) (map whole t.blocks) (map whole (map (settled g.height) g.blocks)));
    }

-- a group begins
group_begins : (s : Forming) (t : Table) → TableMatches s t → GroupMatches s.cells s (group_at t.row)
group_begins s t m =
    let at_row : s.row ≡ t.row = m.at_row in
    let level : s.row ≡ s.height = m.level in
    record {
      cells = sym (append-nil s.cells);
      at_row = at_row;
      high = omega arith;
      within = tt;
      tops = tt;
      sound = tt;
      low = omega arith;
      same = λ x' y' le. refl;
      chain = tt;
      past = λ x' y' lt. m.one x' y';
      quiet = quiet_on s.row t.row (omega arith) s.cells m.quiet;
    }

-- the error is the first overlap of the cells
abbrev pub IsFound : Forming → GridError → Type 0
IsFound s error = FoundAbove s.row s.cells error

-- the walk gives the standard's table, or its first overlap
abbrev pub TableGives : Forming → Result Table GridError → Type 0
TableGives s (Ok table) = TableMatches s table
TableGives s (Err error) = IsFound s error

-- the same at the end of a group
abbrev pub GroupGives : Forming → Forming → Table → Result RowGroup GridError → Type 0
GroupGives s last t (Ok group) = TableMatches (end_group last) (after_group t group)
GroupGives s last t (Err error) = IsFound (end_group last) error

-- an error stays what it is while the standard goes on
found_later : (s t : Forming) (error : GridError) → Later s.row s t → IsFound s error → IsFound t error
found_later s t error later found =
    found_on s.row t.row t.cells error later.on
    (found_kept s.row s.cells t.cells error later.numbers found)

-- a group, by what its rows gave
group_gives_from : (result : Result RowGroup GridError) (s last : Forming) (t : Table) → TableMatches s t →
    Later s.row s last → RowsGive s.cells last result → GroupGives s last t result
group_gives_from (Ok group) s last t m later gives = group_ends s last t group m later gives
group_gives_from (Err error) s last t m later gives = found_later last (end_group last) error (later_end last) gives

-- a whole group
group_gives : (number : ℕ) (rows : List (List SpanOf)) (s : Forming) (t : Table) → AllWide rows →
    TableMatches s t → GroupGives s (form_rows number rows s) t (place_rows number (group_at t.row) rows)
group_gives number rows s t wide m =
    group_gives_from (place_rows number (group_at t.row) rows) s (form_rows number rows s) t m (later_rows rows number s)
    (rows_give rows s.cells number s (group_at t.row) wide (group_begins s t m))

-- each cell of the group has a column
abbrev pub GroupWide : ShapeGroup → Type 0
GroupWide group = AllWide group.rows

-- the rest of the groups, after one
groups_give_step : (result : Result RowGroup GridError) (turn : ShapeGroup → Bool) (number : ℕ)
    (s last : Forming) (t : Table) (groups : List ShapeGroup) → GroupGives s last t result →
    ((u : Table) → TableMatches (end_group last) u → TableGives (form_groups turn number groups (end_group last))
    (place_groups turn number u groups)) →
    TableGives (form_groups turn number groups (end_group last))
    (then_ok (λ group. place_groups turn number (after_group t group) groups) result)
groups_give_step (Ok group) turn number s last t groups gives next = next (after_group t group) gives
groups_give_step (Err error) turn number s last t groups gives next =
    found_later (end_group last) (form_groups turn number groups (end_group last)) error
    (later_groups turn groups number (end_group last)) gives

-- all groups whose turn it is
pub groups_give : (turn : ShapeGroup → Bool) (groups : List ShapeGroup) (number : ℕ) (s : Forming)
    (t : Table) → AllByRecursion GroupWide groups → TableMatches s t →
    TableGives (form_groups turn number groups s) (place_groups turn number t groups)
groups_give turn [] number s t wide m = m
groups_give turn (group ∷ groups) number s t wide m =
    let rest : ℕ = number + cells_in group.rows in
    let last : Forming = form_rows number group.rows s in
    let walked : Result Table GridError =
    then_ok (λ g. place_groups turn rest (after_group t g) groups) (place_rows number (group_at t.row) group.rows) in
    elim (cases_Bool (turn group)) [
      | inl e ↦
          let P : Forming → Type 0 = λ u. TableGives (form_groups turn rest groups u)
          (place_groups turn number t (group ∷ groups)) in
          let Q : Result Table GridError → Type 0 = λ r. TableGives (form_groups turn rest groups (end_group last)) r in
          subst P (sym (cond-true (turn group) (form_group number group.rows s) s e))
          (subst Q (sym (cond-true (turn group) walked (place_groups turn rest t groups) e))
          (groups_give_step (place_rows number (group_at t.row) group.rows) turn rest s last t groups
          (group_gives number group.rows s t wide.0 m)
          (λ u matches. groups_give turn groups rest (end_group last) u wide.1 matches)))
      | inr e ↦
          let P : Forming → Type 0 = λ u. TableGives (form_groups turn rest groups u)
          (place_groups turn number t (group ∷ groups)) in
          let Q : Result Table GridError → Type 0 = λ r. TableGives (form_groups turn rest groups s) r in
          subst P (sym (cond-false (turn group) (form_group number group.rows s) s e))
          (subst Q (sym (cond-false (turn group) walked (place_groups turn rest t groups) e))
          (groups_give turn groups rest s t wide.1 m))
    ]

-- a table without cells
none_yet : (columns : ℕ) → TableMatches (no_cells columns) record { row = 0; blocks = [] }
none_yet columns = record {
  level = refl;
  at_row = refl;
  quiet = tt;
  one = λ x y. omega arith;
  anchors = λ y le. refl;
  sound = tt;
  pairs = λ keeps same. refl;
}

-- the footers, after all others
footers_give : (result : Result Table GridError) (groups : List ShapeGroup) (s : Forming) →
    AllByRecursion GroupWide groups → TableGives s result →
    TableGives (form_groups (λ group. group.foot) 0 groups s)
    (then_ok (λ table. place_groups (λ group. group.foot) 0 table groups) result)
footers_give (Ok table) groups s wide m = groups_give (λ group. group.foot) groups 0 s table wide m
footers_give (Err error) groups s wide found =
    found_later s (form_groups (λ group. group.foot) 0 groups s) error (later_groups (λ group. group.foot) groups 0 s) found

-- the walk over the whole table gives the standard's cells, or the first overlap
pub all_give : (shape : Shape) → AllByRecursion GroupWide shape.groups → TableGives (formed shape) (place_all shape.groups)
all_give shape wide =
    footers_give (place_groups (λ group. not group.foot) 0 (record { row = 0; blocks = [] }) shape.groups) shape.groups
    (form_groups (λ group. not group.foot) 0 shape.groups (no_cells shape.columns)) wide
    (groups_give (λ group. not group.foot) shape.groups 0 (no_cells shape.columns) record {
      row = 0;
      blocks =
          [];
    } wide (none_yet shape.columns))
