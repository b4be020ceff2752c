-- The steps of the standard change nothing in the rows above the current one.
use Rattle.std.proofs.Common.{◌≡◌, ℕ, ◌+◌, ◌-◌, ◌<◌, ◌≤◌, max, Bool, false, ◌&&◌, ◌||◌, ltb, leb, eqb, List, [], ◌∷◌, ◌++◌, map}
use Rattle.std.proofs.Common.{length, refl, sym}
use Rattle.std.proofs.Common.{ap, ◌∙◌, subst, inl, inr, arith, append-nil}
use Rattle.std.proofs.lemmas.Bool.{lt-leb, le-ltb, ne_eqb, cases_Bool, and_left, and_right, cond-true, cond-false}
use Rattle.std.proofs.lemmas.List.Folds.{list_any-append}
use Rattle.tl_grid.specs.declared.shape.SpanOf.{SpanOf}
use Rattle.tl_grid.specs.declared.shape.ShapeGroup.{ShapeGroup}
use Rattle.tl_grid.specs.Forming.{FormedCell, Forming, covers, has_cell, first_free, initial_rowspan, anchored_cell}
use Rattle.tl_grid.specs.Forming.{with_cell, form_cells}
use Rattle.tl_grid.specs.Forming.{grown_into, begin_row}
use Rattle.tl_grid.specs.Forming.{next_row, form_row, form_rows, at_group_end, end_group, form_group, form_groups, cells_in}
use Rattle.tl_grid.specs.Overlap.{numbers_over, IsBefore}
use Rattle.tl_grid.specs.Dropping.{keeps_row}
use Rattle.tl_grid.proofs.Chains.{filter_yes, filter_no}
use Rattle.tl_grid.proofs.Cells.{number_of, or_false, numbers-append, first_free_from, grown_elsewhere}

-- t has the same cells over the slots above row y, and the same anchors there
pub record Later (y : ℕ) (s t : Forming) : Type 0 where
  pub numbers : (x' y' : ℕ) → y' < y → numbers_over x' y' t.cells ≡ numbers_over x' y' s.cells
  pub anchors : (y' : ℕ) → y' < y → keeps_row t.cells y' ≡ keeps_row s.cells y'
  pub on : s.row ≤ t.row
  pub wider : s.width ≤ t.width

-- nothing happens
pub later_same : (s : Forming) → Later s.row s s
later_same s = record { numbers = λ x' y' lt. refl; anchors = λ y' lt. refl; on = omega arith; wider = omega arith }

-- one step after another
pub later_then : (y z : ℕ) (s t u : Forming) → y ≤ z → Later y s t → Later z t u → Later y s u
later_then y z s t u le a b = record {
  numbers = λ x' y' lt. b.numbers x' y' (omega arith) ∙ a.numbers x' y' lt;
  anchors = λ y' lt. b.anchors y' (omega arith) ∙ a.anchors y' lt;
  on = (let h : s.row ≤ t.row = a.on in let k : t.row ≤ u.row = b.on in omega arith);
  wider = (let h : s.width ≤ t.width = a.wider in let k : t.width ≤ u.width = b.wider in omega arith);
}

-- a cell of row y covers no slot above it, and none further left
misses : (number x y : ℕ) (span : SpanOf) (x' y' : ℕ) → IsBefore x' y' x y → covers x' y' (anchored_cell number x y span) ≡ false
misses number x y span x' y' (inl above) =
    and_right (leb x x' && ltb x' (x + span.colspan)) (leb y y' && ltb y' (y + initial_rowspan span))
    (and_left (leb y y') (ltb y' (y + initial_rowspan span)) (lt-leb y y' above))
misses number x y span x' y' (inr (same, left)) =
    and_left (leb x x' && ltb x' (x + span.colspan)) (leb y y' && ltb y' (y + initial_rowspan span))
    (and_left (leb x x') (ltb x' (x + span.colspan)) (lt-leb x x' left))

-- a cell that is formed changes no slot before it
pub with_cell_before : (number x : ℕ) (span : SpanOf) (s : Forming) (x' y' : ℕ) → IsBefore x' y' x s.row →
    numbers_over x' y' (with_cell number x span s).cells ≡ numbers_over x' y' s.cells
with_cell_before number x span s x' y' before =
    numbers-append x' y' s.cells (anchored_cell number x s.row span ∷ [])
    ∙ ap (λ l. numbers_over x' y' s.cells ++ map number_of l)
    (filter_no (covers x' y') (anchored_cell number x s.row span) [] (misses number x s.row span x' y' before))
    ∙ append-nil (numbers_over x' y' s.cells)

-- what is before a column is before one that is not further left
before_on : (x' y' x z y : ℕ) → x ≤ z → IsBefore x' y' x y → IsBefore x' y' z y
before_on x' y' x z y le (inl above) = inl above
before_on x' y' x z y le (inr (same, left)) = inr (same, omega arith)

-- the cells that a row still forms change nothing above it or further left
pub form_cells_before : (spans : List SpanOf) (number x : ℕ) (s : Forming) (x' y' : ℕ) →
    IsBefore x' y' x s.row →
    numbers_over x' y' (form_cells number x spans s).cells ≡ numbers_over x' y' s.cells
form_cells_before [] number x s x' y' before = refl
form_cells_before (span ∷ spans) number x s x' y' before =
    let at : ℕ = first_free (λ column. has_cell column s.row s.cells) x (s.width - x) in
    let on : x ≤ at = first_free_from (λ column. has_cell column s.row s.cells) (s.width - x) x in
    form_cells_before spans (number + 1) (at + span.colspan) (with_cell number at span s) x' y'
    (before_on x' y' x (at + span.colspan) s.row (omega arith) before)
    ∙ with_cell_before number at span s x' y' (before_on x' y' x at s.row on before)

-- the row stays the current one while its cells are formed
pub form_cells_row : (spans : List SpanOf) (number x : ℕ) (s : Forming) → (form_cells number x spans s).row ≡ s.row
form_cells_row [] number x s = refl
form_cells_row (span ∷ spans) number x s =
    let at : ℕ = first_free (λ column. has_cell column s.row s.cells) x (s.width - x) in
    form_cells_row spans (number + 1) (at + span.colspan) (with_cell number at span s)

-- the anchors above it stay
form_cells_anchors : (spans : List SpanOf) (number x : ℕ) (s : Forming) (y' : ℕ) → y' < s.row →
    keeps_row (form_cells number x spans s).cells y' ≡ keeps_row s.cells y'
form_cells_anchors [] number x s y' lt = refl
form_cells_anchors (span ∷ spans) number x s y' lt =
    let at : ℕ = first_free (λ column. has_cell column s.row s.cells) x (s.width - x) in
    form_cells_anchors spans (number + 1) (at + span.colspan) (with_cell number at span s) y' lt
    ∙ list_any-append (λ (c : FormedCell). eqb c.top y') s.cells (anchored_cell number at s.row span ∷ [])
    ∙ ap (λ t. keeps_row s.cells y' || (t || false)) (ne_eqb s.row y' (λ e. omega arith))
    ∙ or_false (keeps_row s.cells y')

-- the table grows no narrower
form_cells_width : (spans : List SpanOf) (number x : ℕ) (s : Forming) → s.width ≤ (form_cells number x spans s).width
form_cells_width [] number x s = omega arith
form_cells_width (span ∷ spans) number x s =
    let at : ℕ = first_free (λ column. has_cell column s.row s.cells) x (s.width - x) in
    let rest : max s.width (at + span.colspan) ≤ (form_cells (number + 1) (at + span.colspan) spans
    (with_cell number at span s)).width =
    form_cells_width spans (number + 1) (at + span.colspan) (with_cell number at span s) in
    omega arith

-- the cells of a row
later_cells : (spans : List SpanOf) (number x : ℕ) (s : Forming) → Later s.row s (form_cells number x spans s)
later_cells spans number x s = record {
  numbers = λ x' y' lt. form_cells_before spans number x s x' y' (inl lt);
  anchors = form_cells_anchors spans number x s;
  on = (let e : (form_cells number x spans s).row ≡ s.row = form_cells_row spans number x s in omega arith);
  wider = form_cells_width spans number x s;
}

-- anchors stay where cells are changed one by one
pub anchors-map : (f : FormedCell → FormedCell) → ((c : FormedCell) → (f c).top ≡ c.top) → (cs : List FormedCell) (y : ℕ) →
    keeps_row (map f cs) y ≡ keeps_row cs y
anchors-map f same [] y = refl
anchors-map f same (c ∷ cs) y =
    ap (λ t. eqb t y || keeps_row (map f cs) y) (same c) ∙ ap (λ t. eqb c.top y || t) (anchors-map f same cs y)

-- the beginning of a row
later_begin : (s : Forming) → Later s.row s (begin_row s)
later_begin s = record {
  numbers = λ x' y' lt. grown_elsewhere x' s.row y' (λ e. omega arith) s.cells;
  anchors = λ y' lt. anchors-map (grown_into s.row) (λ c. refl) s.cells y';
  on = omega arith;
  wider = omega arith;
}

-- the end of a row
later_next : (s : Forming) → Later s.row s (next_row s)
later_next s = record { numbers = λ x' y' lt. refl; anchors = λ y' lt. refl; on = omega arith; wider = omega arith }

-- a whole row
pub later_row : (number : ℕ) (spans : List SpanOf) (s : Forming) → Later s.row s (form_row number spans s)
later_row number spans s =
    let formed : Forming = form_cells number 0 spans (begin_row s) in
    let e : formed.row ≡ s.row = form_cells_row spans number 0 (begin_row s) in
    later_then s.row s.row s (begin_row s) (form_row number spans s) (omega arith) (later_begin s)
    (later_then s.row formed.row (begin_row s) formed (form_row number spans s) (omega arith)
    (later_cells spans number 0 (begin_row s)) (later_next formed))

-- all rows of a group
pub later_rows : (rows : List (List SpanOf)) (number : ℕ) (s : Forming) → Later s.row s (form_rows number rows s)
later_rows [] number s = later_same s
later_rows (spans ∷ rows) number s =
    let after : Forming = form_row number spans s in
    let step : Later s.row s after = later_row number spans s in
    later_then s.row after.row s after (form_rows (number + length spans) rows after) step.on step
    (later_rows rows (number + length spans) after)

-- the end of a group changes nothing above the row that comes after it
pub ended_elsewhere : (x row height y' : ℕ) → y' ≤ row → (cs : List FormedCell) →
    numbers_over x y' (map (at_group_end row height) cs) ≡ numbers_over x y' cs
ended_elsewhere x row height y' le [] = refl
ended_elsewhere x row height y' le (c ∷ cs) =
    let rest : numbers_over x y' (map (at_group_end row height) cs) ≡ numbers_over x y' cs =
    ended_elsewhere x row height y' le cs in
    let same : covers x y' (at_group_end row height c) ≡ covers x y' c =
    ap (λ r. (leb c.left x && ltb x c.right) && r)
    (ap (λ t. c.rows y' || t) (and_right c.grows (ltb row y' && ltb y' height)
    (and_left (ltb row y') (ltb y' height) (le-ltb row y' le))) ∙ or_false (c.rows y')) in
    elim (cases_Bool (covers x y' c)) [
      | inl e ↦
          ap (map number_of) (filter_yes (covers x y') (at_group_end row height c) (map (at_group_end row height) cs) (same ∙ e))
          ∙ ap (λ l. c.number ∷ l) rest ∙ sym (ap (map number_of) (filter_yes (covers x y') c cs e))
      | inr e ↦
          ap (map number_of) (filter_no (covers x y') (at_group_end row height c) (map (at_group_end row height) cs) (same ∙ e))
          ∙ rest ∙ sym (ap (map number_of) (filter_no (covers x y') c cs e))
    ]

-- the end of a group
pub later_end : (s : Forming) → Later s.row s (end_group s)
later_end s = record {
  numbers = λ x' y' lt. ended_elsewhere x' s.row s.height y' (omega arith) s.cells;
  anchors = λ y' lt. anchors-map (at_group_end s.row s.height) (λ c. refl) s.cells y';
  on = omega arith;
  wider = omega arith;
}

-- a whole group
pub later_group : (number : ℕ) (rows : List (List SpanOf)) (s : Forming) → Later s.row s (form_group number rows s)
later_group number rows s =
    let last : Forming = form_rows number rows s in
    let step : Later s.row s last = later_rows rows number s in
    later_then s.row last.row s last (form_group number rows s) step.on step (later_end last)

-- all groups whose turn it is
pub later_groups : (turn : ShapeGroup → Bool) (groups : List ShapeGroup) (number : ℕ) (s : Forming) →
    Later s.row s (form_groups turn number groups s)
later_groups turn [] number s = later_same s
later_groups turn (group ∷ groups) number s =
    let rest : ℕ = number + cells_in group.rows in
    elim (cases_Bool (turn group)) [
      | inl e ↦
          let after : Forming = form_group number group.rows s in
          let step : Later s.row s after = later_group number group.rows s in
          let P : Forming → Type 0 = λ u. Later s.row s (form_groups turn rest groups u) in
          subst P (sym (cond-true (turn group) after s e))
          (later_then s.row after.row s after (form_groups turn rest groups after) step.on step
          (later_groups turn groups rest after))
      | inr e ↦
          let P : Forming → Type 0 = λ u. Later s.row s (form_groups turn rest groups u) in
          subst P (sym (cond-false (turn group) (form_group number group.rows s) s e))
          (later_groups turn groups rest s)
    ]
