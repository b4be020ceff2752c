-- The numbers of the formed cells: each number below the table's count of cells, once.
use Rattle.std.proofs.Common.{◌≡◌, ℕ, ◌+◌, ◌-◌, ◌<◌, ◌≤◌, zero, suc, Bool, true, false, not, cond, eqb, List, [], ◌∷◌, ◌++◌, map}
use Rattle.std.proofs.Common.{length, refl, sym}
use Rattle.std.proofs.Common.{ap, ◌∙◌, inl, inr, arith, zero-add}
use Rattle.std.proofs.lemmas.Bool.{eq-eqb, eqb-true, ne_eqb, cases_Bool, cases_eq, cases_lt}
use Rattle.std.proofs.lemmas.List.{map-append}
use Rattle.std.proofs.lemmas.List.Sums.{sum_by-cons}
use Rattle.std.proofs.lemmas.Simd.{map-map}
use Rattle.tl_grid.specs.declared.shape.SpanOf.{SpanOf}
use Rattle.tl_grid.specs.declared.shape.ShapeGroup.{ShapeGroup}
use Rattle.tl_grid.specs.declared.shape.Shape.{Shape}
use Rattle.tl_grid.specs.Forming.{FormedCell, Forming, has_cell, first_free, anchored_cell, with_cell, form_cells}
use Rattle.tl_grid.specs.Forming.{grown_into, begin_row}
use Rattle.tl_grid.specs.Forming.{form_row, form_rows}
use Rattle.tl_grid.specs.Forming.{at_group_end, form_group, form_groups, cells_in, cells_in_groups, no_cells, formed, cell_count}
use Rattle.tl_grid.proofs.Cells.{number_of}
use Rattle.tl_grid.proofs.Counts.{one_if}
use Rattle.tl_grid.proofs.Members.{IsIn}

-- how often n is among the numbers
abbrev pub tally : ℕ → List ℕ → ℕ
tally n [] = 0
tally n (k ∷ ks) = one_if (eqb k n) + tally n ks

-- the cells' numbers
abbrev pub numbers : List FormedCell → List ℕ
numbers cells = map number_of cells

-- 1 if n is one of the k numbers from a on
abbrev pub one_among : ℕ → ℕ → ℕ → ℕ
one_among n a zero = 0
one_among n a (suc k) = one_if (eqb a n) + one_among n (a + 1) k

-- of two lists
tally-append : (n : ℕ) (ks js : List ℕ) → tally n (ks ++ js) ≡ tally n ks + tally n js
tally-append n [] js = omega arith
tally-append n (k ∷ ks) js =
    let rest : tally n (ks ++ js) ≡ tally n ks + tally n js = tally-append n ks js in omega arith

-- of j numbers and k more
one_among-sum : (n a j k : ℕ) → one_among n a (j + k) ≡ one_among n a j + one_among n (a + j) k
one_among-sum n a zero k =
    let start : a + 0 ≡ a = omega arith in
    let all : one_among n a (0 + k) ≡ one_among n a k = ap (one_among n a) (zero-add k) in
    let same : one_among n (a + 0) k ≡ one_among n a k = ap (λ b. one_among n b k) start in
    all ∙ sym same ∙ sym (zero-add (one_among n (a + 0) k))
one_among-sum n a (suc j) k =
    let count : suc j + k ≡ suc (j + k) = omega arith in
    let start : a + 1 + j ≡ a + suc j = omega arith in
    let all : one_among n a (suc j + k) ≡ one_if (eqb a n) + one_among n (a + 1) (j + k) = ap (one_among n a) count in
    let rest : one_among n (a + 1) (j + k) ≡ one_among n (a + 1) j + one_among n (a + 1 + j) k = one_among-sum n (a + 1) j k in
    let same : one_among n (a + 1 + j) k ≡ one_among n (a + suc j) k = ap (λ b. one_among n b k) start in
    let first : one_among n a (suc j) ≡ one_if (eqb a n) + one_among n (a + 1) j = refl in
    omega arith

-- none below the first
one_among-below : (n a k : ℕ) → n < a → one_among n a k ≡ 0
one_among-below n a zero lt = refl
one_among-below n a (suc k) lt =
    let rest : one_among n (a + 1) k ≡ 0 = one_among-below n (a + 1) k (omega arith) in
    let here : one_if (eqb a n) ≡ 0 = ap one_if (ne_eqb a n (λ e. omega arith)) in
    omega arith

-- none past the last
one_among-past : (n a k : ℕ) → a + k ≤ n → one_among n a k ≡ 0
one_among-past n a zero le = refl
one_among-past n a (suc k) le =
    let rest : one_among n (a + 1) k ≡ 0 = one_among-past n (a + 1) k (omega arith) in
    let here : one_if (eqb a n) ≡ 0 = ap one_if (ne_eqb a n (λ e. omega arith)) in
    omega arith

-- one of those between
one_among-in : (n a k : ℕ) → a ≤ n → n < a + k → one_among n a k ≡ 1
one_among-in n a zero le lt = absurd (omega arith)
one_among-in n a (suc k) le lt =
    elim (cases_eq a n) [
      | inl e ↦
          let rest : one_among n (a + 1) k ≡ 0 = one_among-below n (a + 1) k (omega arith) in
          let here : one_if (eqb a n) ≡ 1 = ap one_if (eq-eqb a n e) in
          omega arith
      | inr ne ↦
          let rest : one_among n (a + 1) k ≡ 1 = one_among-in n (a + 1) k (omega arith) (omega arith) in
          let here : one_if (eqb a n) ≡ 0 = ap one_if (ne_eqb a n ne) in
          omega arith
    ]

-- a row numbers its cells in order
cells_tally : (n : ℕ) (spans : List SpanOf) (number x : ℕ) (s : Forming) →
    tally n (numbers (form_cells number x spans s).cells) ≡ tally n (numbers s.cells) + one_among n number (length spans)
cells_tally n [] number x s = omega arith
cells_tally n (span ∷ spans) number x s =
    let at : ℕ = first_free (λ column. has_cell column s.row s.cells) x (s.width - x) in
    let next : Forming = with_cell number at span s in
    let rest : tally n (numbers (form_cells (number + 1) (at + span.colspan) spans next).cells)
    ≡ tally n (numbers next.cells) + one_among n (number + 1) (length spans) =
    cells_tally n spans (number + 1) (at + span.colspan) next in
    let here : tally n (numbers next.cells) ≡ tally n (numbers s.cells) + (one_if (eqb number n) + 0) =
    ap (tally n) (map-append number_of s.cells (anchored_cell number at s.row span ∷ [])) ∙ tally-append n (numbers s.cells)
    (number ∷ []) in
    let more : one_among n number (length (span ∷ spans)) ≡ one_if (eqb number n) + one_among n (number + 1) (length spans) =
    refl in
    rest ∙ (let sums : tally n (numbers next.cells) + one_among n (number + 1) (length spans)
    ≡ tally n (numbers s.cells) + one_among n number (length (span ∷ spans)) = omega arith in sums)

-- so do the rows of a group
rows_tally : (n : ℕ) (rows : List (List SpanOf)) (number : ℕ) (s : Forming) →
    tally n (numbers (form_rows number rows s).cells) ≡ tally n (numbers s.cells) + one_among n number (cells_in rows)
rows_tally n [] number s = omega arith
rows_tally n (spans ∷ rows) number s =
    let next : Forming = form_row number spans s in
    let rest : tally n (numbers (form_rows (number + length spans) rows next).cells)
    ≡ tally n (numbers next.cells) + one_among n (number + length spans) (cells_in rows) =
    rows_tally n rows (number + length spans) next in
    let here : tally n (numbers next.cells) ≡ tally n (numbers s.cells) + one_among n number (length spans) =
    cells_tally n spans number 0 (begin_row s)
    ∙ ap (λ ks. tally n ks + one_among n number (length spans)) (map-map number_of (grown_into s.row) s.cells) in
    let more : one_among n number (cells_in (spans ∷ rows)) ≡ one_among n number (length spans) + one_among n
    (number + length spans) (cells_in rows) =
    ap (one_among n number) (sum_by-cons length spans rows) ∙ one_among-sum n number (length spans) (cells_in rows) in
    rest ∙ (let sums : tally n (numbers next.cells) + one_among n (number + length spans) (cells_in rows)
    ≡ tally n (numbers s.cells) + one_among n number (cells_in (spans ∷ rows)) = omega arith in sums)

-- a group in its turn, and one that is passed over
turn_tally : (b : Bool) (n number : ℕ) (rows : List (List SpanOf)) (s : Forming) →
    tally n (numbers (cond b (form_group number rows s) s).cells) ≡ tally n (numbers s.cells) + cond b
    (one_among n number (cells_in rows)) 0
turn_tally true n number rows s =
    let last : Forming = form_rows number rows s in
    ap (tally n) (map-map number_of (at_group_end last.row last.height) last.cells) ∙ rows_tally n rows number s
turn_tally false n number rows s = omega arith

-- 1 if n is the number of a cell of the groups whose turn it is
abbrev in_turn : (ShapeGroup → Bool) → ℕ → ℕ → List ShapeGroup → ℕ
in_turn turn n number [] = 0
in_turn turn n number (g ∷ gs) = cond (turn g) (one_among n number (cells_in g.rows)) 0 + in_turn turn n
    (number + cells_in g.rows) gs

-- all groups whose turn it is
groups_tally : (turn : ShapeGroup → Bool) (n : ℕ) (gs : List ShapeGroup) (number : ℕ) (s : Forming) →
    tally n (numbers (form_groups turn number gs s).cells) ≡ tally n (numbers s.cells) + in_turn turn n number gs
groups_tally turn n [] number s = omega arith
groups_tally turn n (g ∷ gs) number s =
    let next : Forming = cond (turn g) (form_group number g.rows s) s in
    let rest : tally n (numbers (form_groups turn (number + cells_in g.rows) gs next).cells)
    ≡ tally n (numbers next.cells) + in_turn turn n (number + cells_in g.rows) gs =
    groups_tally turn n gs (number + cells_in g.rows) next in
    let here : tally n (numbers next.cells) ≡ tally n (numbers s.cells) + cond (turn g) (one_among n number (cells_in g.rows)) 0 =
    turn_tally (turn g) n number g.rows s in
    let more : in_turn turn n number (g ∷ gs) ≡ cond (turn g) (one_among n number (cells_in g.rows)) 0 + in_turn turn n
    (number + cells_in g.rows) gs = refl in
    rest ∙ (let sums : tally n (numbers next.cells) + in_turn turn n (number + cells_in g.rows) gs
    ≡ tally n (numbers s.cells) + in_turn turn n number (g ∷ gs) = omega arith in sums)

-- a group has its turn once
one_turn : (b : Bool) (a : ℕ) → cond (not b) a 0 + cond b a 0 ≡ a
one_turn true a = omega arith
one_turn false a = omega arith

-- so both turns together form all groups
both_turns : (n : ℕ) (gs : List ShapeGroup) (number : ℕ) →
    in_turn (λ g. not g.foot) n number gs + in_turn (λ g. g.foot) n number gs ≡ one_among n number (cells_in_groups gs)
both_turns n [] number = refl
both_turns n (g ∷ gs) number =
    let one : ℕ = one_among n number (cells_in g.rows) in
    let next : ℕ = number + cells_in g.rows in
    let rest : in_turn (λ g. not g.foot) n next gs + in_turn (λ g. g.foot) n next gs ≡ one_among n next (cells_in_groups gs) =
    both_turns n gs next in
    let here : cond (not g.foot) one 0 + cond g.foot one 0 ≡ one = one_turn g.foot one in
    let more : one_among n number (cells_in_groups (g ∷ gs)) ≡ one + one_among n next (cells_in_groups gs) =
    ap (one_among n number) (sum_by-cons (λ (h : ShapeGroup). cells_in h.rows) g gs) ∙ one_among-sum n number (cells_in g.rows)
    (cells_in_groups gs) in
    let sums : (cond (not g.foot) one 0 + in_turn (λ g. not g.foot) n next gs) +
    (cond g.foot one 0 + in_turn (λ g. g.foot) n next gs)
    ≡ one + one_among n next (cells_in_groups gs) = omega arith in
    sums ∙ sym more

-- each number from 0 to the count of cells is that of one cell
pub numbered : (n : ℕ) (shape : Shape) → tally n (numbers (formed shape).cells) ≡ one_among n 0 (cell_count shape)
numbered n shape =
    let bodies : Forming = form_groups (λ group. not group.foot) 0 shape.groups (no_cells shape.columns) in
    let first : tally n (numbers bodies.cells) ≡ 0 + in_turn (λ group. not group.foot) n 0 shape.groups =
    groups_tally (λ group. not group.foot) n shape.groups 0 (no_cells shape.columns) in
    let then : tally n (numbers (formed shape).cells) ≡ tally n (numbers bodies.cells) + in_turn (λ group. group.foot)
    n 0 shape.groups =
    groups_tally (λ group. group.foot) n shape.groups 0 bodies in
    let both : in_turn (λ g. not g.foot) n 0 shape.groups + in_turn (λ g. g.foot) n 0 shape.groups
    ≡ one_among n 0 (cell_count shape) = both_turns n shape.groups 0 in
    omega arith

-- no number stands twice
pub numbered_once : (n : ℕ) (shape : Shape) → tally n (numbers (formed shape).cells) ≤ 1
numbered_once n shape =
    let all : tally n (numbers (formed shape).cells) ≡ one_among n 0 (cell_count shape) = numbered n shape in
    elim (cases_lt n (cell_count shape)) [
      | inl lt ↦ (let one : one_among n 0 (cell_count shape) ≡ 1 =
          one_among-in n 0 (cell_count shape) (omega arith) (omega arith) in omega arith)
      | inr ge ↦ (let none : one_among n 0 (cell_count shape) ≡ 0 = one_among-past n 0 (cell_count shape) (omega arith) in
          omega arith)
    ]

-- none is as large as the count
pub numbered_below : (n : ℕ) (shape : Shape) → cell_count shape ≤ n → tally n (numbers (formed shape).cells) ≡ 0
numbered_below n shape le = numbered n shape ∙ one_among-past n 0 (cell_count shape) (omega arith)

-- an element of a number that is there
pub numbered_in : {X : Type 0} (f : X → ℕ) (n : ℕ) (xs : List X) → 1 ≤ tally n (map f xs) → (x : X) × (IsIn x xs × (f x ≡ n))
numbered_in f n [] has = absurd (omega arith)
numbered_in f n (x ∷ xs) has =
    elim (cases_Bool (eqb (f x) n)) [
      | inl e ↦ (x, (inl refl, eqb-true (f x) n e))
      | inr e ↦
          let none : one_if (eqb (f x) n) ≡ 0 = ap one_if e in
          let (y, is) = numbered_in f n xs (omega arith) in
          (y, (inr is.0, is.1))
    ]

-- each number below the count has a cell
pub cell_numbered : (shape : Shape) (n : ℕ) → n < cell_count shape →
    (cell : FormedCell) × (IsIn cell (formed shape).cells × (cell.number ≡ n))
cell_numbered shape n lt =
    let all : tally n (numbers (formed shape).cells) ≡ one_among n 0 (cell_count shape) = numbered n shape in
    let one : one_among n 0 (cell_count shape) ≡ 1 = one_among-in n 0 (cell_count shape) (omega arith) (omega arith) in
    numbered_in number_of n (formed shape).cells (omega arith)
