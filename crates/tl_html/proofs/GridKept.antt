-- Where a cell is anchored in each column and each row, none is dropped: the grid that is formed again is the grid.
use Rattle.std.proofs.Common.{◌≡◌, ℕ, ◌+◌, ◌-◌, ◌<◌, ◌≤◌, zero, suc, Bool, true, false, ◌&&◌, cond, ltb, leb, eqb, List, [], ◌∷◌}
use Rattle.std.proofs.Common.{◌++◌, map, length}
use Rattle.std.proofs.Common.{get_or, Some}
use Rattle.std.proofs.Common.{refl, sym, ap, ◌∙◌, subst, inl, inr, arith, append_assoc}
use Rattle.std.specs.List.{AllByRecursion, AllPairs, filter, list_any, slice_get, flat_map}
use Rattle.std.proofs.lemmas.Bool.{lt-ltb, le-leb, le-ltb, lt-leb, eq-eqb, or_left, or_right, cases_Bool, cases_lt, cond-true}
use Rattle.std.proofs.lemmas.Bool.{cond-false, false_from_ne_true}
use Rattle.std.proofs.lemmas.List.{length-append, length-map}
use Rattle.std.proofs.lemmas.List.Sums.{sum_by-cons}
use Rattle.tl_base.specs.declared.limits.TheConstants.{MAX_CELLS, MAX_COLUMNS, MAX_ROWS}
use Rattle.tl_grid.specs.declared.shape.Place.{Place}
use Rattle.tl_grid.specs.Forming.{FormedCell, Forming, covers, formed, cell_count, cells_in}
use Rattle.tl_grid.specs.Dropping.{count_below, keeps_column, keeps_row, new_column, new_row, covered_columns, covered_rows}
use Rattle.tl_grid.specs.Dropping.{kept_place, IsPlaced}
use Rattle.tl_grid.specs.Dropping.{StandsAtNumber}
use Rattle.tl_grid.specs.Overlap.{numbers_over}
use Rattle.tl_grid.specs.Form.{HasGrid}
use Rattle.tl_grid.specs.Slots.{HasSlot, AreApart, HasAnchorInColumn, HasAnchorInRow}
use Rattle.tl_html.proofs.GridAgain.{span_at, cell_on, cells_on, IsGrid, formed_again, shape_on, AreRows, slot_of, middle}

-- 1 if the test passes
abbrev one_if : Bool → ℕ
one_if b = cond b 1 0

-- where all numbers below n are kept, all are counted
count_all : (keeps : ℕ → Bool) (n : ℕ) → ((x : ℕ) → x < n → keeps x ≡ true) → count_below keeps n ≡ n
count_all keeps zero all = refl
count_all keeps (suc n) all =
    let one : one_if (keeps n) ≡ 1 = ap one_if (all n (omega arith)) in
    let rest : count_below keeps n ≡ n = count_all keeps n (λ x lt. all x (omega arith)) in
    omega arith

-- the numbers from l on and before r
count_between : (test : ℕ → Bool) (l r n : ℕ) → l ≤ r → r ≤ n → ((x : ℕ) → x < n → x < l → test x ≡ false) →
    ((x : ℕ) → x < n → l ≤ x → x < r → test x ≡ true) → ((x : ℕ) → x < n → r ≤ x → test x ≡ false) → count_below test n ≡ r - l
count_between test l r zero le within below inside above = omega arith
count_between test l r (suc n) le within below inside above =
    elim (cases_lt n r) [
      | inr past ↦
          let none : one_if (test n) ≡ 0 = ap one_if (above n (omega arith) past) in
          let rest : count_below test n ≡ r - l = count_between test l r n le past (λ x lt. below x (omega arith))
          (λ x lt. inside x (omega arith))
          (λ x lt. above x (omega arith)) in
          omega arith
      | inl last ↦ elim (cases_lt n l) [
        | inl empty ↦
            let none : one_if (test n) ≡ 0 = ap one_if (below n (omega arith) empty) in
            let rest : count_below test n ≡ 0 = count_none n (λ x lt. below x (omega arith) (omega arith)) in
            omega arith
        | inr full ↦
            let one : one_if (test n) ≡ 1 = ap one_if (inside n (omega arith) full last) in
            let rest : count_below test n ≡ n - l = count_between test l n n full (omega arith) (λ x lt. below x (omega arith))
            (λ x lt ge below'. inside x (omega arith) ge (omega arith)) (λ x lt past. absurd (omega arith)) in
            omega arith
      ]
    ]
  where
    count_none : (m : ℕ) → ((x : ℕ) → x < m → test x ≡ false) → count_below test m ≡ 0
    count_none zero none = refl
    count_none (suc m) none =
        let here : one_if (test m) ≡ 0 = ap one_if (none m (omega arith)) in
        let rest : count_below test m ≡ 0 = count_none m (λ x lt. none x (omega arith)) in
        omega arith

-- a column and a row in which a place is anchored
column_at : (x number i : ℕ) (d : Place) (places : List Place) → i < length places → (get_or places i d).left ≡ x →
    list_any (λ (cell : FormedCell). eqb cell.left x) (cells_on number places) ≡ true
column_at x number i d [] within is = absurd (omega arith)
column_at x number zero d (p ∷ places) within is =
    or_left (eqb p.left x) (list_any (λ (cell : FormedCell). eqb cell.left x) (cells_on (number + 1) places)) (eq-eqb p.left x is)
column_at x number (suc i) d (p ∷ places) within is =
    or_right (eqb p.left x) (list_any (λ (cell : FormedCell). eqb cell.left x) (cells_on (number + 1) places))
    (column_at x (number + 1) i d places (omega arith) is)

row_at : (y number i : ℕ) (d : Place) (places : List Place) → i < length places → (get_or places i d).top ≡ y →
    list_any (λ (cell : FormedCell). eqb cell.top y) (cells_on number places) ≡ true
row_at y number i d [] within is = absurd (omega arith)
row_at y number zero d (p ∷ places) within is =
    or_left (eqb p.top y) (list_any (λ (cell : FormedCell). eqb cell.top y) (cells_on (number + 1) places)) (eq-eqb p.top y is)
row_at y number (suc i) d (p ∷ places) within is =
    or_right (eqb p.top y) (list_any (λ (cell : FormedCell). eqb cell.top y) (cells_on (number + 1) places))
    (row_at y (number + 1) i d places (omega arith) is)

-- at most one place covers a slot
few_over : (x y number : ℕ) (places : List Place) → AllPairs AreApart places →
    length (numbers_over x y (cells_on number places)) ≤ 1
few_over x y number [] apart = omega arith
few_over x y number (p ∷ places) apart =
    let rest : List FormedCell = cells_on (number + 1) places in
    let tail : AllPairs AreApart places = λ i j d lt within. apart (suc i) (suc j) d (omega arith) (omega arith) in
    elim (cases_Bool (covers x y (cell_on number p))) [
      | inl here ↦
          let none : length (filter (covers x y) rest) ≡ 0 = none_over (number + 1) places
          (λ i within has. apart 0 (suc i) p (omega arith) (omega arith) x y (slot_of x y number p here) has) in
          let kept : filter (covers x y) (cell_on number p ∷ rest) ≡ cell_on number p ∷ filter (covers x y) rest =
          cond-true (covers x y (cell_on number p)) (cell_on number p ∷ filter (covers x y) rest) (filter (covers x y) rest)
          here in
          let long : length (numbers_over x y (cell_on number p ∷ rest)) ≡ length
          (filter (covers x y) (cell_on number p ∷ rest)) = length-map _ _ in
          let more : length (filter (covers x y) (cell_on number p ∷ rest)) ≡ suc (length (filter (covers x y) rest)) =
          ap length kept in
          omega arith
      | inr not_here ↦
          let kept : filter (covers x y) (cell_on number p ∷ rest) ≡ filter (covers x y) rest =
          cond-false (covers x y (cell_on number p)) (cell_on number p ∷ filter (covers x y) rest) (filter (covers x y) rest)
          not_here in
          let same : length (numbers_over x y (cell_on number p ∷ rest)) ≡ length (numbers_over x y rest) =
          ap (λ (cells : List FormedCell). length (map (λ (cell : FormedCell). cell.number) cells)) kept in
          let less : length (numbers_over x y rest) ≤ 1 = few_over x y (number + 1) places tail in
          omega arith
    ]
  where
    none_over : (n : ℕ) (qs : List Place) → ((i : ℕ) → i < length qs → HasSlot x y (get_or qs i p) → ⊥) →
        length (filter (covers x y) (cells_on n qs)) ≡ 0
    none_over n [] none = refl
    none_over n (q ∷ qs) none =
        ap length (cond-false (covers x y (cell_on n q)) (cell_on n q ∷ filter (covers x y) (cells_on (n + 1) qs))
        (filter (covers x y) (cells_on (n + 1) qs))
        (false_from_ne_true (covers x y (cell_on n q)) (λ e. none 0 (omega arith) (slot_of x y n q e))))
        ∙ none_over (n + 1) qs (λ i within has. none (suc i) (omega arith) has)

-- the cells of the rows are the places
cells_counted : (rows : List (List Place)) → cells_in (map (map span_at) rows) ≡ length (flat_map (λ (ps : List Place). ps) rows)
cells_counted [] = refl
cells_counted (ps ∷ rows) =
    let rest : cells_in (map (map span_at) rows) ≡ length (flat_map (λ (qs : List Place). qs) rows) = cells_counted rows in
    let here : length (map span_at ps) ≡ length ps = length-map ps span_at in
    let sum : cells_in (map (map span_at) (ps ∷ rows)) ≡ length (map span_at ps) + cells_in (map (map span_at) rows) =
    sum_by-cons length
    (map span_at ps) (map (map span_at) rows) in
    let long : length (ps ++ flat_map (λ (qs : List Place). qs) rows) ≡ length ps + length
    (flat_map (λ (qs : List Place). qs) rows) = length-append ps _ in
    omega arith

at_prefix : (before : List Place) (p : Place) (later : List Place) → slice_get (before ++ p ∷ later) (length before) ≡ Some p
at_prefix [] p later = refl
at_prefix (q ∷ before) p later = at_prefix before p later

module _ (W H : ℕ) (places : List Place) (grid : IsGrid W H places) (columns : (x : ℕ) → x < W → HasAnchorInColumn places x)
    (rows' : (y : ℕ) → y < H → HasAnchorInRow places y) where
  kept_column : (number x : ℕ) → x < W → keeps_column (cells_on number places) x ≡ true
  kept_column number x lt = let (k, p, within, is, left) = columns x lt in
      column_at x number k p places within (ap (λ (q : Place). q.left) is ∙ left)

  kept_row : (number y : ℕ) → y < H → keeps_row (cells_on number places) y ≡ true
  kept_row number y lt = let (k, p, within, is, top) = rows' y lt in
      row_at y number k p places within (ap (λ (q : Place). q.top) is ∙ top)

  -- the state of the steps, spelt out
  abbrev whole : Forming → Forming
  whole s = record { width = W; height = H; row = s.row; cells = cells_on 0 places }

  module _ (row : ℕ) where
    abbrev state : Forming
    state = record { width = W; height = H; row = row; cells = cells_on 0 places }

    place_again : (number : ℕ) (p : Place) → IsPlaced W H p → kept_place state (cell_on number p) ≡ p
    place_again number p lies =
        let left : new_column state.cells p.left ≡ p.left = count_all (keeps_column state.cells) p.left
        (λ x lt. kept_column 0 x (omega (arith, lies.0, lies.1))) in
        let top : new_row state.cells p.top ≡ p.top = count_all (keeps_row state.cells) p.top
        (λ y lt. kept_row 0 y (omega (arith, lies.2, lies.3))) in
        let across : covered_columns state (cell_on number p) ≡ p.right - p.left = count_between
        (λ x. keeps_column state.cells x && (leb p.left x && ltb x p.right)) p.left p.right W (omega (arith, lies.0)) lies.1
        (λ x lt below. ap (λ b. keeps_column state.cells x && (b && ltb x p.right)) (lt-leb p.left x below) ∙ and_none
        (keeps_column state.cells x))
        (λ x lt from to. ap (λ b. b && (leb p.left x && ltb x p.right)) (kept_column 0 x lt) ∙ ap (λ b. b && ltb x p.right)
        (le-leb p.left x from)
        ∙ lt-ltb x p.right to)
        (λ x lt past. ap (λ b. keeps_column state.cells x && (leb p.left x && b)) (le-ltb x p.right past)
        ∙ ap (λ b. keeps_column state.cells x && b) (and_none (leb p.left x)) ∙ and_none (keeps_column state.cells x)) in
        let down : covered_rows state (cell_on number p) ≡ p.bottom - p.top = count_between
        (λ y. keeps_row state.cells y && (leb p.top y && ltb y p.bottom)) p.top p.bottom H (omega (arith, lies.2)) lies.3
        (λ y lt below. ap (λ b. keeps_row state.cells y && (b && ltb y p.bottom)) (lt-leb p.top y below) ∙ and_none
        (keeps_row state.cells y))
        (λ y lt from to. ap (λ b. b && (leb p.top y && ltb y p.bottom)) (kept_row 0 y lt) ∙ ap (λ b. b && ltb y p.bottom)
        (le-leb p.top y from)
        ∙ lt-ltb y p.bottom to)
        (λ y lt past. ap (λ b. keeps_row state.cells y && (leb p.top y && b)) (le-ltb y p.bottom past)
        ∙ ap (λ b. keeps_row state.cells y && b) (and_none (leb p.top y)) ∙ and_none (keeps_row state.cells y)) in
        let right : new_column state.cells p.left + covered_columns state (cell_on number p) ≡ p.right = omega (arith, lies.0) in
        let bottom : new_row state.cells p.top + covered_rows state (cell_on number p) ≡ p.bottom = omega (arith, lies.2) in
        λ i. record { left = left i; right = right i; top = top i; bottom = bottom i }
      where
        and_none : (b : Bool) → (b && false) ≡ false
        and_none true = refl
        and_none false = refl

    stand : (before later : List Place) → before ++ later ≡ places → AllByRecursion (IsPlaced W H) later →
        AllByRecursion (StandsAtNumber state places) (cells_on (length before) later)
    stand before [] split lie = tt
    stand before (p ∷ later) split lie = (
      subst (λ (l : List Place). slice_get l (length before) ≡ Some (kept_place state (cell_on (length before) p))) split
          (at_prefix before p later ∙ ap Some (sym (place_again (length before) p lie.0))),
      subst (λ n. AllByRecursion (StandsAtNumber state places) (cells_on n later)) (length-append before (p ∷ []))
          (stand (before ++ p ∷ []) later (append_assoc before (p ∷ []) later ∙ split) lie.1),
    )

  all_lie : (ps before : List Place) → before ++ ps ≡ places → AllByRecursion (IsPlaced W H) ps
  all_lie [] before split = tt
  all_lie (p ∷ ps) before split = (
    subst (IsPlaced W H) (ap (λ (l : List Place). get_or l (length before) p) (sym split) ∙ middle before p ps p)
        (grid.placed (length before) p (let long : length (before ++ p ∷ ps) ≡ length places = ap length split in
        let sum : length (before ++ p ∷ ps) ≡ length before + length (p ∷ ps) = length-append before (p ∷ ps) in omega arith)),
    all_lie ps (before ++ p ∷ []) (append_assoc before (p ∷ []) ps ∙ split),
  )

  -- the grid of the rows is the grid
  pub grid_again : (rows : List (List Place)) → flat_map (λ (ps : List Place). ps) rows ≡ places →
      AreRows W H places grid 0 rows → length rows ≡ H →
      W ≤ MAX_COLUMNS → H ≤ MAX_ROWS → length places ≤ MAX_CELLS →
      HasGrid (shape_on W H places grid rows) (record { cols = W; rows = H; places = places })
  grid_again rows split level tall few_columns few_rows few_cells =
      let made = formed_again W H places grid rows split level tall in
      let s : Forming = formed (shape_on W H places grid rows) in
      let same : s ≡ state s.row = λ i. record {
        width = made.width i;
        height = made.height i;
        row = s.row;
        cells =
            made.cells i;
      } in
      let counted : cell_count (shape_on W H places grid rows) ≡ length places = by_rows rows split in
      let kept : count_below (keeps_column (cells_on 0 places)) W ≡ W =
      count_all (keeps_column (cells_on 0 places)) W (kept_column 0) in
      let held : count_below (keeps_row (cells_on 0 places)) H ≡ H = count_all (keeps_row (cells_on 0 places)) H (kept_row 0) in
      let columns_are : count_below (keeps_column s.cells) s.width ≡ W =
      ap (λ (t : Forming). count_below (keeps_column t.cells) t.width) same ∙ kept in
      let rows_are : count_below (keeps_row s.cells) s.height ≡ H =
      ap (λ (t : Forming). count_below (keeps_row t.cells) t.height) same ∙ held in
      record {
        few_cells = omega arith;
        no_overlap = λ x y. subst (λ (t : Forming). length (numbers_over x y t.cells) ≤ 1) (sym same)
            (few_over x y 0 places grid.apart);
        few_columns = omega arith;
        few_rows = omega arith;
        columns = sym columns_are;
        rows = sym rows_are;
        places = record {
          as_many = sym counted;
          each = subst (λ (t : Forming). AllByRecursion (StandsAtNumber t places) t.cells) (sym same)
              (stand s.row [] places refl (all_lie places [] refl));
        };
      }
    where
      by_rows : (rs : List (List Place)) → flat_map (λ (ps : List Place). ps) rs ≡ places →
          cell_count (shape_on W H places grid rs) ≡ length places
      by_rows [] e = ap length e
      by_rows (ps ∷ rs) e =
          let sum : cell_count (shape_on W H places grid (ps ∷ rs)) ≡ 0 + cells_in (map (map span_at) (ps ∷ rs)) = refl in
          let count : cells_in (map (map span_at) (ps ∷ rs)) ≡ length (flat_map (λ (qs : List Place). qs) (ps ∷ rs)) =
          cells_counted (ps ∷ rs) in
          let all : length (flat_map (λ (qs : List Place). qs) (ps ∷ rs)) ≡ length places = ap length e in
          omega arith
