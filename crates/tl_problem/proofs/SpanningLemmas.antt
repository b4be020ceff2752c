-- How the spans of cells, and the classes of a span, are found step by step.
use Rattle.std.proofs.Common.{◌≡◌, ◌≢◌, ℕ, ◌+◌, ◌-◌, ◌*◌, ◌/◌, ◌%◌, ◌<◌, ◌≤◌, zero, suc, min, max, mul_assoc, Bool, true, false}
use Rattle.std.proofs.Common.{not, nat_eq, List, []}
use Rattle.std.proofs.Common.{◌∷◌, ◌++◌, ◌⊎◌, inl, inr, length, map, filter, get_or, set, refl, sym, ap, ◌∙◌, subst, arith}
use Rattle.std.proofs.Common.{length-append}
use Rattle.std.specs.List.{All, AllPairs, Contains, flat_map, list_any, range_with_len}
use Rattle.std.proofs.lemmas.Bool.{cases_eq, cases_lt, eqb-true}
use Rattle.std.proofs.lemmas.List.{map-append, length-map, get_or-map, get_or_push, get_or_append_left, length_push}
use Rattle.std.proofs.lemmas.List.{get_or-set_same}
use Rattle.std.proofs.lemmas.List.{get_or-set_other, length-set, get_or_default, ext_get_or}
use Rattle.std.proofs.lemmas.List.Elements.{filter-append, All-contains, Contains-get_or, Contains-append_left}
use Rattle.std.proofs.lemmas.List.Elements.{Contains-append_right, Contains-append_cases}
use Rattle.std.proofs.lemmas.List.Folds.{Any-from_list_any}
use Rattle.std.proofs.lemmas.Nat.{div-mul-add, mod-mul-add, div-add-mod', mod_below}
use Rattle.std.proofs.lemmas.List.Concat.{flat_map-cons}
use Rattle.std.proofs.lemmas.List.Filters.{length-filter_both}
use Rattle.std.proofs.lemmas.List.FromFn.{length-map-range_with_len}
use Rattle.std.proofs.Math.Nat.{mul-le-mul, mul-le-mul_right, le-mul_of_pos_right}
use Rattle.tl_base.specs.declared.limits.TheConstants.{MAX_COLUMNS, MAX_PAGE_WIDTH}
use Rattle.tl_base.specs.declared.steps.Config.{Config}
use Rattle.tl_base.specs.Steps.{first_width}
use Rattle.tl_base.proofs.Members.{Contains-first, Contains-none, Contains-filter, Contains-map, map-Contains, Contains-one}
use Rattle.tl_base.proofs.Members.{AllPairs-append, filter-Contains, Contains-push}
use Rattle.tl_problem.specs.declared.axis.Axis.TheVariants.{Columns}
use Rattle.tl_problem.specs.declared.axis.Turn.{Turn}
use Rattle.tl_problem.specs.declared.cell.Cell.{Cell}
use Rattle.tl_problem.specs.declared.cell.Span.{Span}
use Rattle.tl_problem.specs.Problem.{ProblemModel}
use Rattle.tl_problem.specs.Sound.{IsSound}
use Rattle.tl_problem.specs.Spans.{span, has_span, all_spans, greatest, spans_of, cells_of, least_width, page_room, begins_step}
use Rattle.tl_problem.specs.Spans.{classes_of, product}
use Rattle.tl_problem.specs.Zones.{span_at, classes_at}
use Rattle.tl_problem.specs.inner.Axes.{turn, IsOrder, HaveAllAt}
use Rattle.tl_problem.specs.inner.Demands.{cell_at}
use Rattle.tl_problem.specs.inner.Spanning.{slot_of, IsSeen, IsEarlier, AreSpansUpto, AreSpans, cells_among, least_among}
use Rattle.tl_problem.specs.inner.Spanning.{IsStepAt, AddsSteps}
use Rattle.tl_problem.specs.inner.Spanning.{IsClass, AreFound, AreFirsts, AreClasses, AreTurnsAt, cells_at}
use Rattle.tl_problem.proofs.AxisLemmas.{IsTurn, order-turns, order-all}
use Rattle.tl_problem.proofs.SpanLaws.{has_span-from, has_span-parts, spans-are, begins-from, classes-are, classes-cases}
use Rattle.tl_problem.proofs.SpanLaws.{classes-least, greatest-le, greatest-least}
use Rattle.tl_problem.proofs.SpanLaws.{classes-Contains, classes-some, classes-rising, class-in_page}

-- ---- the steps of one cell

module _ (old new : List ℕ) (least most : ℕ) where
  pub AddsSteps-none : AddsSteps old old [] least most
  AddsSteps-none = record {
    keeps = λ w has. has;
    adds = λ w is. absurd (Contains-none is.step is.has);
    only = λ w has. inl has;
  }

  module _ (done : List Config) (step : Config) (h : AddsSteps old new done least most) where
    further : (w : ℕ) → IsStepAt done least most w → IsStepAt (done ++ step ∷ []) least most w
    further w is = record {
      past = is.past;
      within = is.within;
      step = is.step;
      has =
          Contains-append_left done (step ∷ []) is.step is.has;
      begins = is.begins;
    }

    pub AddsSteps-skip : (least < step.width → step.width ≤ most → ⊥) → AddsSteps old new (done ++ step ∷ []) least most
    AddsSteps-skip out = record {
      keeps = h.keeps;
      adds = λ w is. adds w is (Contains-append_cases done (step ∷ []) is.step is.has);
      only = λ w has. elim (h.only w has) [ inl before ↦ inl before | inr is ↦ inr (further w is) ];
    } where
      adds : (w : ℕ) → (is : IsStepAt (done ++ step ∷ []) least most w) → Contains done is.step ⊎ Contains (step ∷ []) is.step →
          Contains new w
      adds w is (inl left) = h.adds w (record {
        past = is.past;
        within = is.within;
        step = is.step;
        has = left;
        begins =
            is.begins;
      })
      adds w is (inr right) =
          let same = ap (λ s. s.width) (Contains-one step is.step right) in
          absurd (out (omega (arith, same, is.begins, is.past)) (omega (arith, same, is.begins, is.within)))

    pub AddsSteps-push : least < step.width → step.width ≤ most →
        AddsSteps old (new ++ step.width ∷ []) (done ++ step ∷ []) least most
    AddsSteps-push past within = record {
      keeps = λ w has. Contains-append_left new (step.width ∷ []) w (h.keeps w has);
      adds = λ w is. adds w is (Contains-append_cases done (step ∷ []) is.step is.has);
      only = λ w has. only w (Contains-append_cases new (step.width ∷ []) w has);
    } where
      adds : (w : ℕ) → (is : IsStepAt (done ++ step ∷ []) least most w) → Contains done is.step ⊎ Contains (step ∷ []) is.step →
          Contains (new ++ step.width ∷ []) w
      adds w is (inl left) = Contains-append_left new (step.width ∷ []) w
          (h.adds w (record { past = is.past; within = is.within; step = is.step; has = left; begins = is.begins }))
      adds w is (inr right) =
          subst (Contains (new ++ step.width ∷ [])) (ap (λ s. s.width) (Contains-one step is.step right) ∙ is.begins)
          (Contains-push new step.width)

      only : (w : ℕ) → Contains new w ⊎ Contains (step.width ∷ []) w → Contains old w ⊎ IsStepAt (done ++ step ∷ []) least most w
      only w (inl left) = elim (h.only w left) [ inl before ↦ inl before | inr is ↦ inr (further w is) ]
      only w (inr right) =
          let same = Contains-one step.width w right in
          inr (record {
            past = omega (arith, same);
            within = omega (arith, same);
            step = step;
            has =
                Contains-push done step;
            begins = same;
          })

-- ---- the greatest least width

pub greatest-push : (ns : List ℕ) (n : ℕ) → greatest (ns ++ n ∷ []) ≡ max (greatest ns) n
greatest-push [] n = omega arith
greatest-push (m ∷ ns) n = omega (arith, greatest-push ns n)

module _ (done : List Cell) (columns : Span) (cell : Cell) where
  pub least_among-skip : has_span columns cell ≡ false → least_among (done ++ cell ∷ []) columns ≡ least_among done columns
  least_among-skip out =
      ap (λ cells. greatest (map (λ c. first_width c.low) cells))
      (filter-append (has_span columns) done (cell ∷ []) ∙ rw out (nothing (cells_among done columns))) where
        nothing : (cells : List Cell) → cells ++ [] ≡ cells
        nothing [] = refl
        nothing (c ∷ cells) = ap (λ cs. c ∷ cs) (nothing cells)

  pub least_among-more : has_span columns cell ≡ true → least_among (done ++ cell ∷ []) columns ≡ max (least_among done columns)
      (first_width cell.low)
  least_among-more is =
      ap (λ cells. greatest (map (λ c. first_width c.low) cells))
      (filter-append (has_span columns) done (cell ∷ []) ∙ rw is refl) ∙
      ap greatest (map-append (λ c. first_width c.low) (cells_among done columns) (cell ∷ [])) ∙
      greatest-push (map (λ c. first_width c.low) (cells_among done columns)) (first_width cell.low)

-- the greatest least width of a span among cells is at most that among others with all of these of that span
least_among-le : (some cells : List Cell) (columns : Span) →
    ((cell : Cell) → Contains some cell → has_span columns cell ≡ true → Contains cells cell) →
    least_among some columns ≤ least_among cells columns
least_among-le some cells columns inside =
    greatest-least (map width (cells_among some columns)) (least_among cells columns) (λ n has.
    let one = map-Contains width (cells_among some columns) n has in
    let among = filter-Contains (has_span columns) some one.0 one.1 in
    subst (λ m. m ≤ least_among cells columns) one.2
    (greatest-le (map width (cells_among cells columns)) (width one.0)
    (Contains-map width (cells_among cells columns) one.0
    (Contains-filter (has_span columns) cells one.0 among.1 (inside one.0 among.0 among.1))))) where
      width : Cell → ℕ
      width cell = first_width cell.low

-- ---- the classes of a span

module _ (cells : List Cell) (columns : Span) (least most : ℕ) where
  pub AreFound-none : AreFound cells [] columns least most (least ∷ [])
  AreFound-none = record {
    least_in = Contains-first least [];
    there = λ w has. inl (sym (Contains-one least w has));
    back = λ w is. absurd (Contains-none is.cell is.has);
  }

  module _ (done : List Cell) (cell : Cell) (old : List ℕ) (h : AreFound cells done columns least most old) where
    pub AreFound-skip : has_span columns cell ≡ false → AreFound cells (done ++ cell ∷ []) columns least most old
    AreFound-skip out = record {
      least_in = h.least_in;
      there = h.there;
      back = λ w is. back w is (Contains-append_cases done (cell ∷ []) is.cell is.has);
    } where
      back : (w : ℕ) → (is : IsClass (done ++ cell ∷ []) columns least most w) →
          Contains done is.cell ⊎ Contains (cell ∷ []) is.cell → Contains old w
      back w is (inl left) = h.back w (record { cell = is.cell; has = left; spans = is.spans; begins = is.begins })
      back w is (inr right) =
          let same = Contains-one cell is.cell right in
          let both : true ≡ false = sym is.spans ∙ sym (ap (has_span columns) same) ∙ out in
          absurd (cc)

    pub AreFound-add : (mid new : List ℕ) → AddsSteps old mid cell.low least most → AddsSteps mid new cell.high least most →
        has_span columns cell ≡ true → Contains cells cell →
        AreFound cells (done ++ cell ∷ []) columns least most new
    AreFound-add mid new low high spans among = record {
      least_in = high.keeps least (low.keeps least h.least_in);
      there = λ w has. there w (high.only w has);
      back = λ w is. back w is (Contains-append_cases done (cell ∷ []) is.cell is.has);
    } where
      one : (w : ℕ) (steps : List Config) → ((s : Config) → Contains steps s → Contains (cell.low ++ cell.high) s) →
          IsStepAt steps least most w →
          IsClass cells columns least most w
      one w steps inside is = record {
        cell = cell;
        has = among;
        spans = spans;
        begins = record { past = is.past; within = is.within; step = is.step; has = inside is.step is.has; begins = is.begins };
      }

      there : (w : ℕ) → Contains mid w ⊎ IsStepAt cell.high least most w → (w ≡ least) ⊎ IsClass cells columns least most w
      there w (inl before) = elim (low.only w before) [
        | inl first ↦ h.there w first
        | inr is ↦ inr (one w cell.low (λ s has. Contains-append_left cell.low cell.high s has) is)
      ]
      there w (inr is) = inr (one w cell.high (λ s has. Contains-append_right cell.low cell.high s has) is)

      step_back : (w : ℕ) → (is : IsStepAt (cell.low ++ cell.high) least most w) →
          Contains cell.low is.step ⊎ Contains cell.high is.step → Contains new w
      step_back w is (inl left) =
          high.keeps w (low.adds w (record {
            past = is.past;
            within = is.within;
            step = is.step;
            has = left;
            begins =
                is.begins;
          }))
      step_back w is (inr right) = high.adds w (record {
        past = is.past;
        within = is.within;
        step = is.step;
        has =
            right;
        begins = is.begins;
      })

      back : (w : ℕ) → (is : IsClass (done ++ cell ∷ []) columns least most w) →
          Contains done is.cell ⊎ Contains (cell ∷ []) is.cell → Contains new w
      back w is (inl left) =
          high.keeps w (low.keeps w (h.back w (record { cell = is.cell; has = left; spans = is.spans; begins = is.begins })))
      back w is (inr right) =
          let begins = subst (λ c. IsStepAt (c.low ++ c.high) least most w) (sym (Contains-one cell is.cell right)) is.begins in
          step_back w begins (Contains-append_cases cell.low cell.high begins.step begins.has)

  -- a list with the same elements is as good
  pub AreFound-same : (done : List Cell) (old new : List ℕ) → ((w : ℕ) → Contains old w → Contains new w) →
      ((w : ℕ) → Contains new w → Contains old w) →
      AreFound cells done columns least most old → AreFound cells done columns least most new
  AreFound-same done old new to from h = record {
    least_in = to least h.least_in;
    there = λ w has. h.there w (from w has);
    back = λ w is. to w (h.back w is);
  }

-- ---- the cells that begin where a span does

module _ (cells : List Cell) (columns : Span) (turns : List Turn) (at : AreTurnsAt cells columns.left turns) where
  turns-inside : (cell : Cell) → Contains (cells_at cells turns) cell → Contains cells cell
  turns-inside cell has =
      let one = map-Contains (λ (t : Turn). cell_at cells t.cell) turns cell has in
      let there = All-contains (λ t. t.cell < length cells) turns one.0 at.there one.1 in
      subst (Contains cells) one.2 (Contains-get_or cells one.0.cell _ there)

  turns-all : (cell : Cell) → Contains cells cell → has_span columns cell ≡ true → Contains (cells_at cells turns) cell
  turns-all cell (k, within, is) spans =
      let same : cell_at cells k ≡ cell = get_or_default cells k _ cell within ∙ is in
      let left = ap (λ c. c.left) same ∙ (has_span-parts columns cell spans).0 in
      subst (Contains (cells_at cells turns)) same
      (Contains-map (λ (t : Turn). cell_at cells t.cell) turns (turn columns.left k) (at.each k within left))

  pub least_among-all : least_among (cells_at cells turns) columns ≡ least_among cells columns
  least_among-all = omega (
    arith,
    least_among-le (cells_at cells turns) cells columns (λ cell has is. turns-inside cell has),
    least_among-le cells (cells_at cells turns) columns turns-all,
  )

  -- what is found among them is found among all cells
  pub AreFound-all : (least most : ℕ) (firsts : List ℕ) →
      AreFound cells (cells_at cells turns) columns least most firsts → AreFound cells cells columns least most firsts
  AreFound-all least most firsts h = record {
    least_in = h.least_in;
    there = h.there;
    back = λ w is. h.back w (record {
      cell = is.cell;
      has = turns-all is.cell is.has is.spans;
      spans = is.spans;
      begins = is.begins;
    });
  }

-- in the order in which cells begin, those that begin in a column
pub turns-at : (cells : List Cell) (order turns : List Turn) (column : ℕ) → IsOrder Columns cells order →
    HaveAllAt order column turns → AreTurnsAt cells column turns
turns-at cells order turns column is have = record {
  there = λ k d within.
      (All-contains (IsTurn Columns cells) order (get_or turns k d) (order-turns Columns cells order is)
      (have.some k d within)).0;
  each = λ k within left.
      have.each (turn column k) (subst (λ start. Contains order (turn start k)) left (order-all Columns cells order is k within))
      refl;
}

-- ---- the square of left and right edges

upto : (a b : ℕ) → a ≤ b → a ≤ b
upto a b h = h

pub slot-within : (side : ℕ) (cell : Cell) → cell.left < side → cell.right < side → slot_of side cell < side * side
slot-within side cell left right =
    let more = mul-le-mul_right side (upto (cell.left + 1) side (omega (arith, left))) in
    let one : (cell.left + 1) * side ≡ cell.left * side + side = grind arith in
    omega (arith, more, one, right)

module _ (side : ℕ) (cells : List Cell) where
  pub IsSeen-none : (seen : List Bool) → length seen ≡ side * side → ((slot : ℕ) → get_or seen slot false ≡ false) →
      IsSeen side cells 0 seen
  IsSeen-none seen size clear = record {
    size = size;
    all = λ k none. absurd (omega arith);
    some = λ slot is. let both : true ≡ false = sym is ∙ clear slot in absurd (cc);
  }

  pub IsSeen-more : (k : ℕ) (seen : List Bool) → slot_of side (cell_at cells k) < side * side → IsSeen side cells k seen →
      IsSeen side cells (k + 1) (set seen (slot_of side (cell_at cells k)) true)
  IsSeen-more k seen inside h =
      let here = slot_of side (cell_at cells k) in
      let there : here < length seen = omega (arith, h.size) in
      record {
        size = length-set seen here true ∙ h.size;
        all = λ j below. all j below (cases_eq (slot_of side (cell_at cells j)) here) (cases_eq j k);
        some = λ slot is. some slot is (cases_eq slot here);
      } where
        all : (j : ℕ) → j < k + 1 →
            (slot_of side (cell_at cells j) ≡ slot_of side (cell_at cells k)) ⊎
            (slot_of side (cell_at cells j) ≢ slot_of side (cell_at cells k)) →
            (j ≡ k) ⊎ (j ≢ k) →
            get_or (set seen (slot_of side (cell_at cells k)) true) (slot_of side (cell_at cells j)) false ≡ true
        all j below (inl same) any =
            rw same (get_or-set_same seen (slot_of side (cell_at cells k)) true false (omega (arith, h.size)))
        all j below (inr apart) (inl last) = absurd (apart (ap (λ i. slot_of side (cell_at cells i)) last))
        all j below (inr apart) (inr before) = get_or-set_other seen (slot_of side (cell_at cells k))
            (slot_of side (cell_at cells j)) true false
            apart ∙ h.all j (omega arith)

        some : (slot : ℕ) → get_or (set seen (slot_of side (cell_at cells k)) true) slot false ≡ true →
            (slot ≡ slot_of side (cell_at cells k)) ⊎ (slot ≢ slot_of side (cell_at cells k)) →
            (j : ℕ) × ((j < k + 1) × (slot_of side (cell_at cells j) ≡ slot))
        some slot is (inl same) = (k, (omega arith, sym same))
        some slot is (inr apart) =
            let found = h.some slot (sym (get_or-set_other seen (slot_of side (cell_at cells k)) slot true false apart) ∙ is) in
            (found.0, (omega (arith, found.1.0), found.1.1))

-- a later place of the square is a later span
earlier : (side a b : ℕ) → 0 < side → a < b → IsEarlier (span (a / side) (a % side)) (span (b / side) (b % side))
earlier side a b some less =
    let first = div-add-mod' a side in
    let second = div-add-mod' b side in
    elim (cases_lt (a / side) (b / side)) [
      | inl before ↦ inl before
      | inr after ↦ elim (cases_lt (b / side) (a / side)) [
        | inl lower ↦
            let more = mul-le-mul_right side (upto (b / side + 1) (a / side) (omega (arith, lower))) in
            let one : (b / side + 1) * side ≡ b / side * side + side = grind arith in
            absurd (omega (arith, first, second, more, one, mod_below b side some))
        | inr within ↦
            let same : a / side ≡ b / side = omega arith in
            inr (same, omega (arith, first, second, ap (λ q. q * side) same))
      ]
    ]

module _ (side : ℕ) (seen : List Bool) (some : 0 < side) where
  pub AreSpansUpto-none : AreSpansUpto side seen 0 []
  AreSpansUpto-none = record {
    ordered = λ i j d before within. absurd (omega arith);
    all = λ slot below. absurd (omega arith);
    some = λ columns has. absurd (Contains-none columns has);
  }

  module _ (slot : ℕ) (spans : List Span) (h : AreSpansUpto side seen slot spans) where
    abbrev here : Span
    here = span (slot / side) (slot % side)

    pub AreSpansUpto-skip : get_or seen slot false ≢ true → AreSpansUpto side seen (slot + 1) spans
    AreSpansUpto-skip clear = record {
      ordered = h.ordered;
      all = λ other below is. elim (cases_eq other slot) [
        | inl same ↦ absurd (clear (rw same at is))
        | inr apart ↦ h.all other (omega arith) is
      ];
      some = λ columns has. let found = h.some columns has in (found.0, (omega (arith, found.1.0), found.1.1));
    }

    pub AreSpansUpto-push : get_or seen slot false ≡ true → AreSpansUpto side seen (slot + 1) (spans ++ here ∷ [])
    AreSpansUpto-push marked = record {
      ordered = AllPairs-append IsEarlier spans (here ∷ []) h.ordered (λ i j d before within. absurd (omega arith))
          (λ a b first second.
          let found = h.some a first in
          subst (λ x. IsEarlier x b) found.1.1.1 (subst (IsEarlier (span (found.0 / side) (found.0 % side)))
          (Contains-one here b second)
          (earlier side found.0 slot some found.1.0)));
      all = λ other below is. elim (cases_eq other slot) [
        | inl same ↦ subst (λ i. Contains (spans ++ here ∷ []) (span (i / side) (i % side))) (sym same) (Contains-push spans here)
        | inr apart ↦ Contains-append_left spans (here ∷ []) (span (other / side) (other % side)) (h.all other (omega arith) is)
      ];
      some = λ columns has. elim (Contains-append_cases spans (here ∷ []) columns has) [
        | inl left ↦ let found = h.some columns left in (found.0, (omega (arith, found.1.0), found.1.1))
        | inr right ↦ (slot, (omega arith, (marked, Contains-one here columns right)))
      ];
    }

  -- the spans of all marked places are those of the cells
  pub AreSpans-all : (cells : List Cell) (spans : List Span) → All (λ cell. (cell.left < side) × (cell.right < side)) cells →
      IsSeen side cells (length cells) seen →
      AreSpansUpto side seen (side * side) spans → AreSpans cells spans
  AreSpans-all cells spans grid is h = record {
    ordered = h.ordered;
    each = λ cell has.
        let at : cell_at cells has.0 ≡ cell = get_or_default cells has.0 _ cell has.1 ∙ has.2 in
        let in_grid = All-contains (λ c. (c.left < side) × (c.right < side)) cells cell grid has in
        let marked : get_or seen (slot_of side cell) false ≡ true =
        subst (λ c. get_or seen (slot_of side c) false ≡ true) at (is.all has.0 has.1) in
        let found = h.all (slot_of side cell) (slot-within side cell in_grid.0 in_grid.1) marked in
        rw (div-mul-add cell.left side cell.right in_grid.1, mod-mul-add cell.left side cell.right in_grid.1) at found;
    some = λ columns has.
        let found = h.some columns has in
        let one = is.some found.0 found.1.1.0 in
        let cell = cell_at cells one.0 in
        let in_grid = grid one.0 (record { left = 0; right = 0; top = 0; bottom = 0; low = []; high = [] }) one.1.0 in
        let left : cell.left ≡ columns.left = sym (div-mul-add cell.left side cell.right in_grid.1) ∙ ap (λ i. i / side)
        one.1.1 ∙ ap (λ s. s.left)
        found.1.1.1 in
        let right : cell.right ≡ columns.right = sym (mod-mul-add cell.left side cell.right in_grid.1) ∙ ap (λ i. i % side)
        one.1.1 ∙ ap
        (λ s. s.right) found.1.1.1 in
        (cell, Contains-get_or cells one.0 _ one.1.0, has_span-from columns cell left right);
  }

-- ---- what was found is what the problem's spans and classes are

pub spans-found : (problem : ProblemModel) → IsSound problem → (spans : List Span) → AreSpans problem.cells spans →
    spans ≡ spans_of problem
spans-found problem sound spans are = spans-are problem sound spans are.ordered are.each are.some

firsts-found : (problem : ProblemModel) (columns : Span) (firsts : List ℕ) →
    AreFirsts problem.cells columns (page_room problem) firsts →
    firsts ≡ classes_of problem columns
firsts-found problem columns firsts are =
    classes-are problem columns firsts are.rising
    (λ w has. there w (are.found.there w has))
    (λ w has. back w (classes-cases problem columns w has)) where
      there : (w : ℕ) → (w ≡ least_among problem.cells columns) ⊎
          IsClass problem.cells columns (least_among problem.cells columns)
          (page_room problem) w → Contains (classes_of problem columns) w
      there w (inl first) = subst (Contains (classes_of problem columns)) (sym first) (classes-least problem columns)
      there w (inr is) =
          classes-Contains problem columns w is.begins.past is.begins.within
          (subst (λ v. begins_step problem columns v ≡ true) is.begins.begins
          (begins-from problem columns is.cell is.begins.step is.has is.spans
          is.begins.has))

      back : (w : ℕ) → (w ≡ least_width problem columns) ⊎
          ((least_width problem columns < w) × (w ≤ page_room problem) × (begins_step problem columns w ≡ true)) →
          Contains firsts w
      back w (inl first) = subst (Contains firsts) (sym first) are.found.least_in
      back w (inr later) =
          let one = Any-from_list_any (λ cell. list_any (λ step. nat_eq step.width w) (cell.low ++ cell.high))
          (cells_of problem columns) later.2 in
          let among = filter-Contains (has_span columns) problem.cells one.1 (one.0, one.2, one.3) in
          let at = Any-from_list_any (λ step. nat_eq step.width w) (one.1.low ++ one.1.high) one.4 in
          are.found.back w (record {
            cell = one.1;
            has = among.0;
            spans = among.1;
            begins = record {
              past = later.0;
              within = later.1;
              step = at.1;
              has = (at.0, at.2, at.3);
              begins =
                  eqb-true at.1.width w at.4;
            };
          })

pub classes-found : (problem : ProblemModel) (classes : List (List ℕ)) →
    AreClasses problem.cells (page_room problem) (spans_of problem) (length (spans_of problem)) classes →
    classes ≡ map (classes_of problem) (spans_of problem)
classes-found problem classes are =
    ext_get_or [] classes (map (classes_of problem) (spans_of problem))
    (are.count ∙ sym (length-map (spans_of problem) (classes_of problem))) (λ s within.
    let inside : s < length (spans_of problem) = omega (arith, are.count) in
    firsts-found problem (get_or (spans_of problem) s (span 0 0)) (get_or classes s []) (are.each s inside) ∙ sym
    (get_or-map (classes_of problem) (spans_of problem) s (span 0 0) [] inside))

-- ---- how many spans and classes there are

-- the spans that begin at one column
abbrev row : ℕ → ℕ → List Span
row cols left = map (span left) (range_with_len (left + 1) (cols - left))

rows-length : (cols a n : ℕ) → a + n ≡ cols → 2 * length (flat_map (row cols) (range_with_len a n)) ≡ n * n + n
rows-length cols a zero whole = omega arith
rows-length cols a (suc n) whole =
    let rest = rows-length cols (a + 1) n (omega (arith, whole)) in
    let first : length (row cols a) ≡ suc n = length-map-range_with_len (span a) (a + 1) (cols - a) ∙ omega (arith, whole) in
    let split = ap length (flat_map-cons (row cols) a (range_with_len (a + 1) n)) in
    let sum = length-append (row cols a) (flat_map (row cols) (range_with_len (a + 1) n)) in
    let square : suc n * suc n + suc n ≡ n * n + n + 2 * suc n = grind arith in
    omega (arith, rest, first, split, sum, square)

filter-short : {X : Type 0} (p : X → Bool) (xs : List X) → length (filter p xs) ≤ length xs
filter-short p xs = omega (arith, length-filter_both p (λ x. not (p x)) (λ x. refl) xs)

-- there are few spans
pub spans-few : (problem : ProblemModel) → IsSound problem → 2 * length (spans_of problem) ≤ MAX_COLUMNS * (MAX_COLUMNS + 1)
unfolding spans_of
spans-few problem sound =
    let all = rows-length problem.cols 0 problem.cols (omega arith) in
    let some = filter-short (λ columns. list_any (has_span columns) problem.cells) (all_spans problem.cols) in
    let square = mul-le-mul sound.few_columns sound.few_columns in
    omega (arith, all, some, square, sound.few_columns)

-- numbers that rise are at least their places
pub rising-at : (xs : List ℕ) → AllPairs (λ a b. a < b) xs → (k : ℕ) → k < length xs → k ≤ get_or xs k 0
rising-at xs rising zero within = omega arith
rising-at xs rising (suc k) within =
    let before = rising-at xs rising k (omega arith) in
    let more = rising k (suc k) 0 (omega arith) within in
    omega (arith, before, more)

-- the classes of a span are few, and there is one
pub classes-few : (problem : ProblemModel) → IsSound problem → (s : ℕ) → s < length (spans_of problem) →
    (1 ≤ length (classes_at problem s)) × (length (classes_at problem s) ≤ MAX_PAGE_WIDTH + 2)
classes-few problem sound s within =
    let some = classes-some problem (span_at problem s) in
    elim (cases_lt 1 (length (classes_at problem s))) [
      | inr one ↦ (some, omega arith)
      | inl more ↦
          let last = length (classes_at problem s) - 1 in
          let inside : last - 1 < length (classes_at problem s) = omega arith in
          let next : last - 1 + 1 ≡ last = omega arith in
          let ends = class-in_page problem sound s (last - 1) inside in
          let at = rising-at (classes_at problem s) (classes-rising problem (span_at problem s)) last (omega arith) in
          let same = get_or_default (classes_at problem s) last 0 (page_room problem + 1) (omega arith) in
          let end : get_or (classes_at problem s) last (page_room problem + 1) - 1 ≤ page_room problem = rw next at ends in
          (some, omega (arith, at, same, end, sound.narrow))
    ]

-- ---- the count

pub product-push : (ns : List ℕ) (n : ℕ) → product (ns ++ n ∷ []) ≡ product ns * n
product-push [] n = omega arith
product-push (m ∷ ns) n =
    let rest = product-push ns n in
    ap (λ p. m * p) rest ∙ sym (mul_assoc m (product ns) n)

-- a product that is cut at a number may be cut before each factor
pub min-product : (p n most : ℕ) → min (min p most * n) most ≡ min (p * n) most
min-product p zero most = ap (λ z. min z most) (omega arith)
min-product p (suc n) most =
    elim (cases_lt most p) [
      | inr small ↦ ap (λ q. min (q * suc n) most) (omega arith)
      | inl large ↦
          let cut : min p most ≡ most = omega arith in
          let first = le-mul_of_pos_right {m = suc n} most (omega arith) in
          let second = mul-le-mul_right (suc n) (upto most p (omega arith)) in
          rw cut (omega (arith, first, second))
    ]

-- ---- small steps

-- a cell that has not both edges of the span has another
pub has_span-false : (columns : Span) (cell : Cell) → (cell.left ≡ columns.left → cell.right ≡ columns.right → ⊥) →
    has_span columns cell ≡ false
has_span-false columns cell apart = decide (has_span columns cell) (λ is. let parts = has_span-parts columns cell is in
    apart parts.0 parts.1) where
      decide : (b : Bool) → (b ≡ true → ⊥) → b ≡ false
      decide true never = absurd (never refl)
      decide false never = refl

pub AreClasses-push : (cells : List Cell) (most : ℕ) (spans : List Span) (k : ℕ) (classes : List (List ℕ)) (firsts : List ℕ) →
    AreClasses cells most spans k classes →
    AreFirsts cells (get_or spans k (span 0 0)) most firsts → AreClasses cells most spans (k + 1) (classes ++ firsts ∷ [])
AreClasses-push cells most spans k classes firsts h one = record {
  count = omega (arith, length_push classes firsts, h.count);
  each = λ s below. elim (cases_eq s k) [
    | inl same ↦ rw (same, get_or_push classes firsts [] k h.count) one
    | inr apart ↦
        let before : s < length classes = omega (arith, h.count) in
        rw (get_or_append_left classes (firsts ∷ []) [] s before) (h.each s (omega arith))
  ];
}
