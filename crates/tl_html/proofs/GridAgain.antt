-- A grid that is written out row by row is formed again: each cell comes to its place, and no column and no row is
-- dropped.
use Rattle.std.proofs.Common.{◌≡◌, ℕ, ◌+◌, ◌-◌, ◌<◌, ◌≤◌, max, zero, suc, Bool, true, false, ◌&&◌, ◌||◌, cond, ltb, leb, eqb}
use Rattle.std.proofs.Common.{List, [], ◌∷◌, ◌++◌}
use Rattle.std.proofs.Common.{map, length, get_or}
use Rattle.std.proofs.Common.{refl, sym, ap, ◌∙◌, subst, inl, inr, arith, append_assoc, append-nil, All}
use Rattle.std.specs.List.{AllByRecursion, AllPairs, flat_map}
use Rattle.std.proofs.lemmas.Bool.{lt-ltb, le-leb, eqb-true, ltb-true, leb-true, and_parts, and_from, or_left, or_right, cases_lt}
use Rattle.std.proofs.lemmas.Bool.{cond-false}
use Rattle.std.proofs.lemmas.Bool.{false_from_ne_true}
use Rattle.std.proofs.lemmas.List.{length-append, get_or_append_left}
use Rattle.std.proofs.Math.Bool.{or-false}
use Rattle.tl_grid.specs.declared.shape.SpanOf.{SpanOf}
use Rattle.tl_grid.specs.declared.shape.Shape.{Shape}
use Rattle.tl_grid.specs.declared.shape.Place.{Place}
use Rattle.tl_grid.specs.Forming.{FormedCell, Forming, covers, has_cell, first_free, initial_rowspan, anchored_cell}
use Rattle.tl_grid.specs.Forming.{with_cell, form_cells}
use Rattle.tl_grid.specs.Forming.{grown_into, begin_row}
use Rattle.tl_grid.specs.Forming.{form_row, form_rows, at_group_end, no_cells, formed}
use Rattle.tl_grid.specs.Dropping.{IsPlaced}
use Rattle.tl_grid.specs.Slots.{HasSlot, AreApart, IsFilledToLeft}
use Rattle.tl_grid.proofs.Cells.{first_free_is}
use Rattle.tl_table.specs.Sound.{ComesBefore}

-- how many columns and rows a place takes
abbrev pub span_at : Place → SpanOf
span_at place = record { colspan = place.right - place.left; rowspan = place.bottom - place.top }

-- the cell that stands at a place
abbrev pub cell_on : ℕ → Place → FormedCell
cell_on number place = record {
  number = number;
  left = place.left;
  right = place.right;
  top = place.top;
  rows = λ row. leb place.top row && ltb row place.bottom;
  grows = false;
}

-- the cells at these places, numbered from `number` on
abbrev pub cells_on : ℕ → List Place → List FormedCell
cells_on number [] = []
cells_on number (place ∷ places) = cell_on number place ∷ cells_on (number + 1) places

cells_on-append : (number : ℕ) (xs ys : List Place) → cells_on number (xs ++ ys) ≡ cells_on number xs ++ cells_on
    (number + length xs) ys
cells_on-append number [] ys = ap (λ n. cells_on n ys) (let same : number ≡ number + 0 = omega arith in same)
cells_on-append number (x ∷ xs) ys =
    ap (λ (cells : List FormedCell). cell_on number x ∷ cells) (cells_on-append (number + 1) xs ys
    ∙ ap (λ n. cells_on (number + 1) xs ++ cells_on n ys) (let same : number + 1 + length xs ≡ number + suc (length xs) =
    omega arith in same))

-- ---- what is known of a list at one of its places

pub middle : {X : Type 0} (xs : List X) (x : X) (ys : List X) (d : X) → get_or (xs ++ x ∷ ys) (length xs) d ≡ x
middle [] x ys d = refl
middle (y ∷ xs) x ys d = middle xs x ys d

-- some place of the list covers the slot
covered_at : (x y number i : ℕ) (d : Place) (places : List Place) → i < length places → HasSlot x y (get_or places i d) →
    has_cell x y (cells_on number places) ≡ true
covered_at x y number i d [] within has = absurd (omega arith)
covered_at x y number zero d (p ∷ places) within has =
    or_left (covers x y (cell_on number p)) (has_cell x y (cells_on (number + 1) places))
    (and_from (leb p.left x && ltb x p.right) (leb p.top y && ltb y p.bottom)
    (and_from (leb p.left x) (ltb x p.right) (le-leb p.left x has.0) (lt-ltb x p.right has.1))
    (and_from (leb p.top y) (ltb y p.bottom) (le-leb p.top y has.2) (lt-ltb y p.bottom has.3)))
covered_at x y number (suc i) d (p ∷ places) within has =
    or_right (covers x y (cell_on number p)) (has_cell x y (cells_on (number + 1) places))
    (covered_at x y (number + 1) i d places (omega arith) has)

-- what a cell at a place covers
pub slot_of : (x y number : ℕ) (p : Place) → covers x y (cell_on number p) ≡ true → HasSlot x y p
slot_of x y number p e =
    let is = and_parts (leb p.left x && ltb x p.right) (leb p.top y && ltb y p.bottom) e in
    let across = and_parts (leb p.left x) (ltb x p.right) is.0 in
    let down = and_parts (leb p.top y) (ltb y p.bottom) is.1 in
    (leb-true p.left x across.0, ltb-true x p.right across.1, leb-true p.top y down.0, ltb-true y p.bottom down.1)

-- no place of the list covers the slot
free_of : (x y number : ℕ) (d : Place) (places : List Place) →
    ((i : ℕ) → i < length places → HasSlot x y (get_or places i d) → ⊥) →
    has_cell x y (cells_on number places) ≡ false
free_of x y number d [] none = refl
free_of x y number d (p ∷ places) none =
    ap (λ b. b || has_cell x y (cells_on (number + 1) places))
    (false_from_ne_true (covers x y (cell_on number p)) (λ e. none 0 (omega arith) (slot_of x y number p e)))
    ∙ free_of x y (number + 1) d places (λ i within has. none (suc i) (omega arith) has)

-- a grid: its places lie within it, are apart and in order, and all slots to the left of one are covered in its row
pub record IsGrid (W H : ℕ) (places : List Place) : Type 0 where
  pub placed : All (IsPlaced W H) places
  pub apart : AllPairs AreApart places
  pub in_order : AllPairs ComesBefore places
  pub filled : All (IsFilledToLeft places) places

module _ (W H : ℕ) (places : List Place) (grid : IsGrid W H places) where
  -- one of the places, and those before it
  module _ (done : List Place) (p : Place) (later : List Place) (split : done ++ p ∷ later ≡ places) where
    here : get_or places (length done) p ≡ p
    here = ap (λ (l : List Place). get_or l (length done) p) (sym split) ∙ middle done p later p

    within : length done < length places
    within =
        let long : length (done ++ p ∷ later) ≡ length places = ap length split in
        let sum : length (done ++ p ∷ later) ≡ length done + length (p ∷ later) = length-append done (p ∷ later) in
        omega arith

    before : (i : ℕ) → i < length done → get_or places i p ≡ get_or done i p
    before i lt = ap (λ (l : List Place). get_or l i p) (sym split) ∙ get_or_append_left done (p ∷ later) p i lt

    lies : IsPlaced W H p
    lies = subst (IsPlaced W H) here (grid.placed (length done) p within)

    -- all slots to its left are covered by those before it
    left_covered : (x : ℕ) → x < p.left → has_cell x p.top (cells_on 0 done) ≡ true
    left_covered x lt =
        let filled : IsFilledToLeft places p = subst (IsFilledToLeft places) here (grid.filled (length done) p within) in
        let (k, q, inside, is, has) = filled x lt in
        elim (cases_lt k (length done)) [
          | inl earlier ↦ covered_at x p.top 0 k q done earlier (
              let same : get_or done k q ≡ q =
              sym (get_or_append_left done (p ∷ later) q k earlier) ∙ ap (λ (l : List Place). get_or l k q) split ∙ is in
              subst (λ (r : Place). HasSlot x p.top r) (sym same) has)
          | inr from ↦
              absurd (elim (cases_lt (length done) k) [
                | inl after ↦ (
                    let first : get_or places (length done) q ≡ p =
                    ap (λ (l : List Place). get_or l (length done) q) (sym split) ∙ middle done p later q in
                    let order : ComesBefore p q = subst (λ (r : Place). ComesBefore r q) first
                    (subst (ComesBefore (get_or places (length done) q)) is (grid.in_order (length done) k q after inside)) in
                    elim order [
                      | inl lower ↦ omega (arith, has.2)
                      | inr beside ↦ omega (arith, has.0, beside.1)
                    ])
                | inr upto ↦ (
                    let at : k ≡ length done = omega arith in
                    let same : q ≡ p = sym is ∙ ap (λ n. get_or places n q) at ∙ ap
                    (λ (l : List Place). get_or l (length done) q) (sym split)
                    ∙ middle done p later q in
                    let bound : p.left ≤ x = subst (λ (r : Place). r.left ≤ x) same has.0 in
                    omega arith)
              ])
        ]

    -- no earlier cell covers the first slot of a cell
    first_is_free : has_cell p.left p.top (cells_on 0 done) ≡ false
    first_is_free = free_of p.left p.top 0 p done (λ i lt has.
        grid.apart i (length done) p lt within p.left p.top
        (subst (HasSlot p.left p.top) (sym (before i lt)) has)
        (subst (HasSlot p.left p.top) (sym here) (omega arith, lies.0, omega arith, lies.2)))

  -- of two neighbours in a row the second begins at the end of the first or after it
  beside : (done : List Place) (p q : Place) (later : List Place) → done ++ p ∷ q ∷ later ≡ places → p.top ≡ q.top →
      p.right ≤ q.left
  beside done p q later split level =
      let split' : (done ++ p ∷ []) ++ q ∷ later ≡ places = append_assoc done (p ∷ []) (q ∷ later) ∙ split in
      let n = length done in
      let long : length (done ++ p ∷ []) ≡ n + 1 = length-append done (p ∷ []) in
      let in_q : length (done ++ p ∷ []) < length places = within (done ++ p ∷ []) q later split' in
      let at_p : get_or places n p ≡ p = here done p (q ∷ later) split in
      let at_q : get_or places (length (done ++ p ∷ [])) p ≡ q =
      ap (λ (l : List Place). get_or l (length (done ++ p ∷ [])) p) (sym split') ∙ middle (done ++ p ∷ []) q later p in
      let order : ComesBefore p q = subst (λ (r : Place). ComesBefore r q) at_p (subst (ComesBefore (get_or places n p)) at_q
      (grid.in_order n (length (done ++ p ∷ [])) p (omega arith) in_q)) in
      let lies_p = lies done p (q ∷ later) split in
      let lies_q = lies (done ++ p ∷ []) q later split' in
      elim (cases_lt q.left p.right) [
        | inr fine ↦ fine
        | inl over ↦ absurd (grid.apart n (length (done ++ p ∷ [])) p (omega arith) in_q q.left q.top
            (subst (HasSlot q.left q.top) (sym at_p) (elim order [
              | inl lower ↦ absurd (omega arith)
              | inr level' ↦ (omega (arith, level'.1), over, omega arith, omega (arith, lies_p.2))
            ]))
            (subst (HasSlot q.left q.top) (sym at_q) (omega arith, lies_q.0, omega arith, lies_q.2)))
      ]

  -- ---- a row is formed

  -- the state of the steps, where these places are taken
  pub record IsAt (y : ℕ) (done : List Place) (s : Forming) : Type 0 where
    pub width : s.width ≡ W
    pub row : s.row ≡ y
    pub low : s.height ≤ H
    pub cells : s.cells ≡ cells_on 0 done

  -- the next place begins at that column or after it
  abbrev StartsFrom : ℕ → List Place → Type 0
  StartsFrom x [] = Unit {0}
  StartsFrom x (p ∷ ps) = x ≤ p.left

  abbrev pub AreInRow : ℕ → List Place → Type 0
  AreInRow y ps = AllByRecursion (λ (p : Place). p.top ≡ y) ps

  next_start : (done : List Place) (y : ℕ) (p : Place) (ps more : List Place) → done ++ (p ∷ ps ++ more) ≡ places →
      AreInRow y (p ∷ ps) →
      StartsFrom p.right ps
  next_start done y p [] more split level = tt
  next_start done y p (q ∷ ps) more split level = beside done p q (ps ++ more) split (level.0 ∙ sym level.1.0)

  rowspan_is : (p : Place) → p.top < p.bottom → p.top + initial_rowspan (span_at p) ≡ p.bottom
  rowspan_is p lt =
      let n = p.bottom - p.top in
      let some : cond (eqb n 0) 1 n ≡ n = cond-false (eqb n 0) 1 n
      (false_from_ne_true (eqb n 0) (λ e. let none : n ≡ 0 = eqb-true n 0 e in omega arith)) in
      omega arith

  -- the cell is the one at its place
  cell_is : (number y : ℕ) (p : Place) → p.left < p.right → p.top < p.bottom → p.top ≡ y →
      anchored_cell number p.left y (span_at p) ≡ cell_on number p
  cell_is number y p wide high level =
      let right : p.left + (p.right - p.left) ≡ p.right = omega arith in
      let bottom : y + initial_rowspan (span_at p) ≡ p.bottom =
      ap (λ n. n + initial_rowspan (span_at p)) (sym level) ∙ rowspan_is p high in
      let grows : eqb (p.bottom - p.top) 0 ≡ false = false_from_ne_true (eqb (p.bottom - p.top) 0)
      (λ e. let none : p.bottom - p.top ≡ 0 = eqb-true (p.bottom - p.top) 0 e in omega arith) in
      λ i. record {
        number = number;
        left = p.left;
        right = right i;
        top = sym level i;
        rows = λ row. leb (sym level i) row && ltb row (bottom i);
        grows = grows i;
      }

  cells_again : (ps done more : List Place) (y x number : ℕ) (s : Forming) → done ++ (ps ++ more) ≡ places → AreInRow y ps →
      StartsFrom x ps →
      number ≡ length done → IsAt y done s → y < H → IsAt y (done ++ ps) (form_cells number x (map span_at ps) s)
      × (s.height ≤ (form_cells number x (map span_at ps) s).height)
  cells_again [] done more y x number s split level starts at state low =
      (subst (λ (l : List Place). IsAt y l s) (sym (append-nil done)) state, omega arith)
  cells_again (p ∷ ps) done more y x number s split level starts at state low =
      let taken : ℕ → Bool = λ column. has_cell column s.row s.cells in
      let same : (column : ℕ) → taken column ≡ has_cell column p.top (cells_on 0 done) =
      λ column. ap (λ row. has_cell column row s.cells) (state.row ∙ sym level.0) ∙ ap (has_cell column p.top) state.cells in
      let lies_p : IsPlaced W H p = lies done p (ps ++ more) split in
      let found : first_free taken x (s.width - x) ≡ p.left = first_free_is taken (s.width - x) x p.left starts
      (omega (arith, state.width, lies_p.0, lies_p.1))
      (λ column from lt. same column ∙ left_covered done p (ps ++ more) split column lt)
      (same p.left ∙ first_is_free done p (ps ++ more) split) in
      let span = span_at p in
      let next : Forming = with_cell number p.left span s in
      let right : p.left + span.colspan ≡ p.right = omega (arith, lies_p.0) in
      let bottom : s.row + initial_rowspan span ≡ p.bottom =
      ap (λ n. n + initial_rowspan span) (state.row ∙ sym level.0) ∙ rowspan_is p lies_p.2 in
      let state' : IsAt y (done ++ p ∷ []) next = record {
        width = let w : max s.width (p.left + span.colspan) ≡ W = omega (arith, state.width, right, lies_p.1) in w;
        row = state.row;
        low = let h : max s.height (s.row + initial_rowspan span) ≤ H = omega (arith, state.low, bottom, lies_p.3) in h;
        cells = ap (λ (cells : List FormedCell). cells ++ anchored_cell number p.left s.row span ∷ []) state.cells
            ∙ ap (λ (cell : FormedCell). cells_on 0 done ++ cell ∷ [])
            (cell_is number s.row p lies_p.0 lies_p.2 (level.0 ∙ sym state.row))
            ∙ ap (λ n. cells_on 0 done ++ cell_on n p ∷ []) (at ∙ (let z : length done ≡ 0 + length done = omega arith in z))
            ∙ sym (cells_on-append 0 done (p ∷ []));
      } in
      let split' : (done ++ p ∷ []) ++ (ps ++ more) ≡ places = append_assoc done (p ∷ []) (ps ++ more) ∙ split in
      let rest = cells_again ps (done ++ p ∷ []) more y p.right (number + 1) next split' level.1
      (next_start done y p ps more split level)
      (let long : length (done ++ p ∷ []) ≡ length done + 1 = length-append done (p ∷ []) in omega arith) state' low in
      let Q : Forming → Type 0 = λ made. IsAt y (done ++ p ∷ ps) made × (s.height ≤ made.height) in
      subst (λ column. Q (form_cells (number + 1) (column + span.colspan) (map span_at ps) (with_cell number column span s)))
      (sym found)
      (subst (λ column. Q (form_cells (number + 1) column (map span_at ps) next)) (sym right) (
        subst (λ (l : List Place). IsAt y l (form_cells (number + 1) p.right (map span_at ps) next))
            (append_assoc done (p ∷ []) ps) rest.0,
        omega
            (arith, rest.1),
      ))

  -- ---- rows are formed

  -- no cell on a place grows
  none_grows : (y : ℕ) (number : ℕ) (ps : List Place) → map (grown_into y) (cells_on number ps) ≡ cells_on number ps
  none_grows y number [] = refl
  none_grows y number (p ∷ ps) =
      let same : grown_into y (cell_on number p) ≡ cell_on number p = λ i. record {
        number = number;
        left = p.left;
        right = p.right;
        top = p.top;
        rows = λ row. or-false (leb p.top row && ltb row p.bottom) i;
        grows = false;
      } in
      ap (λ (cell : FormedCell). cell ∷ map (grown_into y) (cells_on (number + 1) ps)) same
      ∙ ap (λ (cells : List FormedCell). cell_on number p ∷ cells) (none_grows y (number + 1) ps)

  none_ends : (y h : ℕ) (number : ℕ) (ps : List Place) → map (at_group_end y h) (cells_on number ps) ≡ cells_on number ps
  none_ends y h number [] = refl
  none_ends y h number (p ∷ ps) =
      let same : at_group_end y h (cell_on number p) ≡ cell_on number p = λ i. record {
        number = number;
        left = p.left;
        right = p.right;
        top = p.top;
        rows = λ row. or-false (leb p.top row && ltb row p.bottom) i;
        grows = false;
      } in
      ap (λ (cell : FormedCell). cell ∷ map (at_group_end y h) (cells_on (number + 1) ps)) same
      ∙ ap (λ (cells : List FormedCell). cell_on number p ∷ cells) (none_ends y h (number + 1) ps)

  -- the places of each row, from row y on
  abbrev pub AreRows : ℕ → List (List Place) → Type 0
  AreRows y [] = Unit {0}
  AreRows y (ps ∷ rows) = AreInRow y ps × AreRows (y + 1) rows

  abbrev pub concat : List (List Place) → List Place
  concat rows = flat_map (λ (ps : List Place). ps) rows

  abbrev pub spans_on : List (List Place) → List (List SpanOf)
  spans_on rows = map (map span_at) rows

  begins_left : (ps : List Place) → StartsFrom 0 ps
  begins_left [] = tt
  begins_left (p ∷ ps) = omega arith

  pub length_spans : (ps : List Place) → length (map span_at ps) ≡ length ps
  length_spans [] = refl
  length_spans (p ∷ ps) = let rest : length (map span_at ps) ≡ length ps = length_spans ps in omega arith

  rows_again : (rows : List (List Place)) (done : List Place) (y number : ℕ) (s : Forming) → done ++ concat rows ≡ places →
      AreRows y rows →
      y + length rows ≤ H → number ≡ length done → IsAt y done s → y ≤ s.height →
      IsAt (y + length rows) places (form_rows number (spans_on rows) s) ×
      (y + length rows ≤ (form_rows number (spans_on rows) s).height)
  rows_again [] done y number s split level room at state high =
      let end : y ≡ y + 0 = omega arith in (
        record {
          width = state.width;
          row = state.row ∙ end;
          low = state.low;
          cells =
              state.cells ∙ ap (cells_on 0) (sym (append-nil done) ∙ split);
        },
        omega arith,
      )
  rows_again (ps ∷ rows) done y number s split level room at state high =
      let begun : Forming = begin_row s in
      let state' : IsAt y done begun = record {
        width = state.width;
        row = state.row;
        low = let h : max s.height (s.row + 1) ≤ H = omega (arith, state.row, state.low) in h;
        cells = ap (map (grown_into s.row)) state.cells ∙ none_grows s.row 0 done;
      } in
      let made = cells_again ps done (concat rows) y 0 number begun split level.0 (begins_left ps) at state' (omega arith) in
      let formed_row : Forming = form_cells number 0 (map span_at ps) begun in
      let low : y + 1 ≤ begun.height = (let h : y + 1 ≤ max s.height (s.row + 1) = omega (arith, state.row) in h) in
      let next : Forming = form_row number (map span_at ps) s in
      let after : IsAt (y + 1) (done ++ ps) next = record {
        width = made.0.width;
        row = ap (λ n. n + 1) made.0.row;
        low = made.0.low;
        cells = made.0.cells;
      } in
      let rest = rows_again rows (done ++ ps) (y + 1) (number + length (map span_at ps)) next
      (append_assoc done ps (concat rows) ∙ split) level.1
      (omega arith)
      (omega (arith, length_spans ps, length-append done ps)) after (omega (arith, low, made.1)) in
      let end : y + 1 + length rows ≡ y + suc (length rows) = omega arith in
      subst (λ n. IsAt n places (form_rows number (spans_on (ps ∷ rows)) s) ×
      (n ≤ (form_rows number (spans_on (ps ∷ rows)) s).height)) end rest

  -- the shape of the rows, in one group or in none
  abbrev pub shape_on : List (List Place) → Shape
  shape_on [] = record { columns = W; groups = [] }
  shape_on (ps ∷ rows) = record { columns = W; groups = record { foot = false; rows = spans_on (ps ∷ rows) } ∷ [] }

  pub record IsFormedAgain (s : Forming) : Type 0 where
    pub width : s.width ≡ W
    pub height : s.height ≡ H
    pub cells : s.cells ≡ cells_on 0 places

  pub formed_again : (rows : List (List Place)) → concat rows ≡ places → AreRows 0 rows → length rows ≡ H →
      IsFormedAgain (formed (shape_on rows))
  formed_again [] split level tall = record { width = refl; height = tall; cells = ap (cells_on 0) split }
  formed_again (ps ∷ rows) split level tall =
      let start : IsAt 0 [] (no_cells W) = record { width = refl; row = refl; low = omega arith; cells = refl } in
      let made = rows_again (ps ∷ rows) [] 0 0 (no_cells W) split level (omega arith) refl start (omega arith) in
      let last : Forming = form_rows 0 (spans_on (ps ∷ rows)) (no_cells W) in
      record {
        width = made.0.width;
        height = omega (arith, made.0.low, made.1);
        cells = ap (map (at_group_end last.row last.height)) made.0.cells ∙ none_ends last.row last.height 0 places;
      }
