-- In each row of the standard's steps the slots to the left of an anchor are taken.
use Rattle.std.proofs.Common.{◌≡◌, ℕ, ◌+◌, ◌-◌, ◌<◌, ◌≤◌, zero, suc, Bool, true, false, ◌&&◌, ◌||◌, not, cond, ltb, leb, eqb}
use Rattle.std.proofs.Common.{List, [], ◌∷◌, ◌++◌}
use Rattle.std.proofs.Common.{map, length, sym, ap, ◌∙◌, inl, inr, arith}
use Rattle.std.specs.List.{AllByRecursion}
use Rattle.std.proofs.lemmas.Bool.{lt-ltb, le-leb, and_parts, and_from, or_left, or_right, or_cases, cases_Bool, cases_eq}
use Rattle.std.proofs.lemmas.Bool.{cases_lt, cond-true}
use Rattle.std.proofs.lemmas.Bool.{cond-false}
use Rattle.std.proofs.lemmas.List.Folds.{list_any-append}
use Rattle.tl_grid.specs.declared.shape.SpanOf.{SpanOf}
use Rattle.tl_grid.specs.declared.shape.ShapeGroup.{ShapeGroup}
use Rattle.tl_grid.specs.declared.shape.Shape.{Shape}
use Rattle.tl_grid.specs.Forming.{FormedCell, Forming, covers, has_cell, first_free, initial_rowspan, anchored_cell}
use Rattle.tl_grid.specs.Forming.{with_cell, form_cells}
use Rattle.tl_grid.specs.Forming.{grown_into, begin_row}
use Rattle.tl_grid.specs.Forming.{form_row, form_rows, at_group_end, end_group, form_group, form_groups, cells_in, no_cells}
use Rattle.tl_grid.specs.Forming.{formed}
use Rattle.tl_grid.proofs.Rows.{rows_some}

-- the slots to the left of the cell are taken in the row of its anchor
abbrev pub IsFilled : List FormedCell → FormedCell → Type 0
IsFilled cells cell = (x : ℕ) → x < cell.left → has_cell x cell.top cells ≡ true

-- so for all cells
abbrev pub AllFilled : Forming → Type 0
AllFilled s = AllByRecursion (IsFilled s.cells) s.cells

-- more slots are taken
abbrev Covers : List FormedCell → List FormedCell → Type 0
Covers cells others = (x y : ℕ) → has_cell x y cells ≡ true → has_cell x y others ≡ true

-- what was filled stays filled
filled_on : (cells others : List FormedCell) → Covers cells others → (cs : List FormedCell) → AllByRecursion (IsFilled cells) cs →
    AllByRecursion (IsFilled others) cs
filled_on cells others more [] all = tt
filled_on cells others more (c ∷ cs) all = (λ x lt. more x c.top (all.0 x lt), filled_on cells others more cs all.1)

-- one more cell takes no slot away
covers_push : (cells : List FormedCell) (c : FormedCell) → Covers cells (cells ++ c ∷ [])
covers_push cells c x y has = list_any-append (covers x y) cells (c ∷ []) ∙ or_left (has_cell x y cells) (has_cell x y (c ∷ []))
    has

-- one more cell that is filled
push_filled : (P : FormedCell → Type 0) (cs : List FormedCell) (c : FormedCell) → AllByRecursion P cs → P c →
    AllByRecursion P (cs ++ c ∷ [])
push_filled P [] c all is = (is, tt)
push_filled P (d ∷ cs) c all is = (all.0, push_filled P cs c all.1 is)

-- the slots that are passed are taken
passed_taken : (taken : ℕ → Bool) (k x x' : ℕ) → x ≤ x' → x' < first_free taken x k → taken x' ≡ true
passed_taken taken zero x x' le lt = absurd (omega arith)
passed_taken taken (suc k) x x' le lt =
    elim (cases_Bool (taken x)) [
      | inl e ↦
          let on : first_free taken x (suc k) ≡ first_free taken (x + 1) k =
          cond-true (taken x) (first_free taken (x + 1) k) x e in
          elim (cases_eq x x') [
            | inl same ↦ ap taken (sym same) ∙ e
            | inr ne ↦ passed_taken taken k (x + 1) x' (omega arith) (omega arith)
          ]
      | inr e ↦
          let stop : first_free taken x (suc k) ≡ x = cond-false (taken x) (first_free taken (x + 1) k) x e in
          absurd (omega arith)
    ]

-- a cell takes the slots of its first row
covers_first : (number x y : ℕ) (span : SpanOf) (x' : ℕ) → x ≤ x' → x' < x + span.colspan →
    covers x' y (anchored_cell number x y span) ≡ true
covers_first number x y span x' le lt =
    and_from (leb x x' && ltb x' (x + span.colspan)) (leb y y && ltb y (y + initial_rowspan span))
    (and_from (leb x x') (ltb x' (x + span.colspan)) (le-leb x x' le) (lt-ltb x' (x + span.colspan) lt))
    (and_from (leb y y) (ltb y (y + initial_rowspan span)) (le-leb y y (omega arith))
    (lt-ltb y (y + initial_rowspan span) (rows_some y span.rowspan)))

-- the row is taken up to the end of one more cell
row_on : (number at : ℕ) (span : SpanOf) (s : Forming) →
    ((x' : ℕ) → x' < at → has_cell x' s.row s.cells ≡ true) → (x' : ℕ) → x' < at + span.colspan →
    has_cell x' s.row (with_cell number at span s).cells ≡ true
row_on number at span s before x' lt =
    let c : FormedCell = anchored_cell number at s.row span in
    elim (cases_lt x' at) [
      | inl left ↦ covers_push s.cells c x' s.row (before x' left)
      | inr here ↦
          list_any-append (covers x' s.row) s.cells (c ∷ [])
          ∙ or_right (has_cell x' s.row s.cells) (has_cell x' s.row (c ∷ []))
          (or_left (covers x' s.row c) false (covers_first number at s.row span x' here lt))
    ]

-- a row, of which the slots before column x are taken
cells_filled : (spans : List SpanOf) (number x : ℕ) (s : Forming) →
    ((x' : ℕ) → x' < x → has_cell x' s.row s.cells ≡ true) → AllFilled s →
    AllFilled (form_cells number x spans s)
cells_filled [] number x s before all = all
cells_filled (span ∷ spans) number x s before all =
    let taken : ℕ → Bool = λ column. has_cell column s.row s.cells in
    let at : ℕ = first_free taken x (s.width - x) in
    let c : FormedCell = anchored_cell number at s.row span in
    let next : Forming = with_cell number at span s in
    let free : (x' : ℕ) → x' < at → has_cell x' s.row s.cells ≡ true =
    λ x' lt. elim (cases_lt x' x) [
      | inl left ↦ before x' left
      | inr here ↦ passed_taken taken (s.width - x) x x' here lt
    ] in
    cells_filled spans (number + 1) (at + span.colspan) next (row_on number at span s free)
    (push_filled (IsFilled next.cells) s.cells c (filled_on s.cells next.cells (covers_push s.cells c) s.cells all)
    (λ x' lt. covers_push s.cells c x' s.row (free x' lt)))

-- a change of all cells that takes no slot from one
covers_map : (f : FormedCell → FormedCell) → ((x y : ℕ) (c : FormedCell) → covers x y c ≡ true → covers x y (f c) ≡ true) →
    (cs : List FormedCell) →
    Covers cs (map f cs)
covers_map f more [] x y has = has
covers_map f more (c ∷ cs) x y has =
    elim (or_cases (covers x y c) (has_cell x y cs) has) [
      | inl here ↦ or_left (covers x y (f c)) (has_cell x y (map f cs)) (more x y c here)
      | inr later ↦ or_right (covers x y (f c)) (has_cell x y (map f cs)) (covers_map f more cs x y later)
    ]

-- a change that moves no anchor
map_filled : (others : List FormedCell) (f : FormedCell → FormedCell) →
    ((c : FormedCell) → IsFilled others c → IsFilled others (f c)) → (cs : List FormedCell) →
    AllByRecursion (IsFilled others) cs → AllByRecursion (IsFilled others) (map f cs)
map_filled others f same [] all = tt
map_filled others f same (c ∷ cs) all = (same c all.0, map_filled others f same cs all.1)

-- a cell with more rows covers no less
more_rows : (x y : ℕ) (c : FormedCell) (more : Bool) → covers x y c ≡ true →
    ((leb c.left x && ltb x c.right) && (c.rows y || more)) ≡ true
more_rows x y c more e =
    let is = and_parts (leb c.left x && ltb x c.right) (c.rows y) e in
    and_from (leb c.left x && ltb x c.right) (c.rows y || more) is.0 (or_left (c.rows y) more is.1)

-- the beginning of a row
begin_filled : (s : Forming) → AllFilled s → AllFilled (begin_row s)
begin_filled s all =
    map_filled (begin_row s).cells (grown_into s.row) (λ c is. is) s.cells
    (filled_on s.cells (begin_row s).cells (covers_map (grown_into s.row)
    (λ x y c e. more_rows x y c (c.grows && eqb y s.row) e) s.cells) s.cells all)

-- the rows of a group
rows_filled : (rows : List (List SpanOf)) (number : ℕ) (s : Forming) → AllFilled s → AllFilled (form_rows number rows s)
rows_filled [] number s all = all
rows_filled (spans ∷ rows) number s all =
    rows_filled rows (number + length spans) (form_row number spans s)
    (cells_filled spans number 0 (begin_row s) (λ x' lt. absurd (omega arith)) (begin_filled s all))

-- a whole group
group_filled : (number : ℕ) (rows : List (List SpanOf)) (s : Forming) → AllFilled s → AllFilled (form_group number rows s)
group_filled number rows s all =
    let last : Forming = form_rows number rows s in
    let ended : FormedCell → FormedCell = at_group_end last.row last.height in
    map_filled (end_group last).cells ended (λ c is. is) last.cells
    (filled_on last.cells (end_group last).cells
    (covers_map ended (λ x y c e. more_rows x y c (c.grows && (ltb last.row y && ltb y last.height)) e) last.cells) last.cells
    (rows_filled rows number s all))

-- a group in its turn, and one that is passed over
turn_filled : (b : Bool) (number : ℕ) (rows : List (List SpanOf)) (s : Forming) → AllFilled s →
    AllFilled (cond b (form_group number rows s) s)
turn_filled true number rows s all = group_filled number rows s all
turn_filled false number rows s all = all

-- all groups whose turn it is
groups_filled : (turn : ShapeGroup → Bool) (gs : List ShapeGroup) (number : ℕ) (s : Forming) → AllFilled s →
    AllFilled (form_groups turn number gs s)
groups_filled turn [] number s all = all
groups_filled turn (g ∷ gs) number s all =
    groups_filled turn gs (number + cells_in g.rows) (cond (turn g) (form_group number g.rows s) s)
    (turn_filled (turn g) number g.rows s all)

-- in every table all slots to the left of an anchored cell are taken in its row
pub formed_filled : (shape : Shape) → AllFilled (formed shape)
formed_filled shape =
    groups_filled (λ group. group.foot) shape.groups 0 (form_groups (λ group. not group.foot) 0 shape.groups
    (no_cells shape.columns))
    (groups_filled (λ group. not group.foot) shape.groups 0 (no_cells shape.columns) tt)
