-- Cells of a problem whose nested tables have sound steps: they have steps of their own, and are sound.
use Rattle.std.proofs.Common.{◌≡◌, ℕ, ◌+◌, ◌*◌, ◌≤◌, inl, inr, List, Option, Some, None, refl, sym, subst}
use Rattle.std.proofs.Common.{arith}
use Rattle.std.specs.List.{AllByRecursion}
use Rattle.std.specs.Option.{IsSomeAnd}
use Rattle.std.proofs.lemmas.Bool.{cases_lt}
use Rattle.tl_base.specs.declared.steps.Config.{Config}
use Rattle.tl_base.specs.declared.style.Style.{Style}
use Rattle.tl_base.specs.Steps.{AreSteps, IsLowAt, first_height, first_width, height_at}
use Rattle.tl_base.proofs.Members.{AllByRecursion-weaker}
use Rattle.tl_base.proofs.Stacking.{first_width-within}
use Rattle.tl_problem.specs.declared.cell.Cell.{Cell}
use Rattle.tl_problem.proofs.Heights.{IsLowAt-from, IsLowAt-higher, IsLowAt-same, height-from_first, height-from_low}
use Rattle.tl_table.specs.declared.cell.Table.{Table, out-Table}
use Rattle.tl_table.specs.declared.cell.TableCell.{TableCell, out-TableCell}
use Rattle.tl_form.specs.declared.heights.InnerSteps.{InnerSteps}
use Rattle.tl_table.specs.declared.layout.Layout.{Layout}
use Rattle.tl_table.specs.Layouts.{Fits, FitsRoom}
use Rattle.tl_table.specs.Tables.{OpenCell, tables_in}
use Rattle.tl_form.specs.Problems.{CellNeeds, InnerNeeds, IsCellBy, steps_for}
use Rattle.tl_table.specs.Sound.{IsSpeltBlock, cell_size, table_size}
use Rattle.tl_form.specs.SoundProblems.{AreSoundSteps}
use Rattle.tl_table.specs.declared.cell.Content.{out-Content}
use Rattle.tl_form.proofs.CellHeights.{adds-any, adds-less, cell-by, cell-small}
use Rattle.tl_form.proofs.CellNeedLemmas.{inner-functional}
use Rattle.tl_form.proofs.NeedSteps.{first-least, height-falls, height-first, height-past}
use Rattle.tl_form.proofs.ProblemCells.{first-need}
use Rattle.tl_form.proofs.ProblemLayouts.{IsBelowAt, cell-below}
use Rattle.tl_form.proofs.StepsExist.{HasStart, cell-begins, cell-steps}

opened : {P : InnerSteps → Type 0} (o : Option InnerSteps) → IsSomeAnd o P → (one : InnerSteps) × (o ≡ Some one) × P one
opened None is = absurd is
opened (Some one) is = (one, refl, is)

module _ (inner : List InnerSteps) (style : Style) (page : ℕ) where
  abbrev lows : Table → ℕ → ℕ → Type 0
  lows = InnerNeeds (λ one. one.low) inner

  abbrev highs : Table → ℕ → ℕ → Type 0
  highs = InnerNeeds (λ one. one.high) inner

  -- the nested table has sound steps
  abbrev pub HasSound : Table → Type 0
  HasSound nested = IsSomeAnd (steps_for inner (out-Table nested).number) (AreSoundSteps style page nested)

  module _ (bound : InnerSteps → List Config) (nested : Table) (one : InnerSteps)
      (is : steps_for inner (out-Table nested).number ≡ Some one) where
    needs-to : (w h : ℕ) → InnerNeeds bound inner nested w h → height_at (bound one) w ≡ Some h
    needs-to w h need = subst (λ o. IsSomeAnd o (λ any. height_at (bound any) w ≡ Some h)) is need

    needs-of : (w h : ℕ) → height_at (bound one) w ≡ Some h → InnerNeeds bound inner nested w h
    needs-of w h at = subst (λ o. IsSomeAnd o (λ any. height_at (bound any) w ≡ Some h)) (sym is) at

    start-of : AreSteps (bound one) → HasStart (InnerNeeds bound inner) nested
    start-of are = record {
      start = first_width (bound one);
      begins = record {
        from = λ w h need. first-least (bound one) are w h (needs-to w h need);
        has = λ w wide. let some = height-from_first (bound one) are.has_step w wide in (some.0, needs-of w some.0 some.1);
      };
      falls = λ v w m n wider first second. height-falls (bound one) are v w m n wider (needs-to v m first) (needs-to w n second);
    }

  pub low-start : (nested : Table) → HasSound nested → HasStart lows nested
  low-start nested has =
      let at = opened {P = AreSoundSteps style page nested} (steps_for inner (out-Table nested).number) has in
      start-of (λ one. one.low) nested at.0 at.1 at.2.decreasing.0

  pub high-start : (nested : Table) → HasSound nested → HasStart highs nested
  high-start nested has =
      let at = opened {P = AreSoundSteps style page nested} (steps_for inner (out-Table nested).number) has in
      start-of (λ one. one.high) nested at.0 at.1 at.2.decreasing.1

  -- where there is a lower bound there is an upper one
  low-high : (nested : Table) (w h : ℕ) → HasSound nested → lows nested w h → (k : ℕ) × highs nested w k
  low-high nested w h has need =
      let at = opened {P = AreSoundSteps style page nested} (steps_for inner (out-Table nested).number) has in
      let least = first-least at.0.low at.2.decreasing.0 w h (needs-to (λ one. one.low) nested at.0 at.1 w h need) in
      let some = height-from_first at.0.high at.2.decreasing.1.has_step w (omega (arith, least, at.2.same)) in
      (some.0, needs-of (λ one. one.high) nested at.0 at.1 w some.0 some.1)

  -- the lower bound is no higher than the upper one
  high-low : (nested : Table) (w h : ℕ) → w ≤ page → HasSound nested → highs nested w h → (k : ℕ) × lows nested w k × (k ≤ h)
  high-low nested w h within has need =
      let at = opened {P = AreSoundSteps style page nested} (steps_for inner (out-Table nested).number) has in
      let high = needs-to (λ one. one.high) nested at.0 at.1 w h need in
      let low = height-from_low at.0.low h w (at.2.below w h within (IsLowAt-from at.0.high h w high)) in
      (low.0, needs-of (λ one. one.low) nested at.0 at.1 w low.0 low.1, low.2)

  -- a nested table that fits has a lower bound
  fits-low : (nested : Table) (w height : ℕ) (layout : Layout) → HasSound nested → Fits nested style w height layout →
      (k : ℕ) × lows nested w k
  fits-low nested w height layout has fits =
      let at = opened {P = AreSoundSteps style page nested} (steps_for inner (out-Table nested).number) has in
      let least = at.2.least.least w height layout fits in
      let some = height-from_first at.0.low at.2.decreasing.0.has_step w least in
      (some.0, needs-of (λ one. one.low) nested at.0 at.1 w some.0 some.1)

  -- the upper bound is small
  high-small : (nested : Table) (w h : ℕ) → HasSound nested → highs nested w h → h ≤ 2 * table_size nested
  high-small nested w h has need =
      let at = opened {P = AreSoundSteps style page nested} (steps_for inner (out-Table nested).number) has in
      let high = needs-to (λ one. one.high) nested at.0 at.1 w h need in
      let least = first-least at.0.high at.2.decreasing.1 w h high in
      let fall = height-falls at.0.high at.2.decreasing.1 (first_width at.0.high) w (first_height at.0.high) h least
      (height-first at.0.high at.2.decreasing.1)
      high in
      omega (arith, fall, at.2.small)

  -- ---- a cell whose nested tables have sound steps

  module _ (lines : ℕ) (cell : OpenCell) (have : AllByRecursion HasSound (tables_in cell)) where
    have-low : AllByRecursion (HasStart lows) (tables_in cell)
    have-low = AllByRecursion-weaker HasSound (HasStart lows) (tables_in cell) low-start have

    have-high : AllByRecursion (HasStart highs) (tables_in cell)
    have-high = AllByRecursion-weaker HasSound (HasStart highs) (tables_in cell) high-start have

    cell-low-high : (w h : ℕ) → CellNeeds lows lines cell w h → (k : ℕ) × CellNeeds highs lines cell w k
    cell-low-high w h need =
        let by = cell-by (λ m n. Unit {0}) adds-any lows highs w lines cell h
        (AllByRecursion-weaker HasSound (λ nested. (m : ℕ) → lows nested w m →
        (n : ℕ) × highs nested w n × Unit {0}) (tables_in cell)
        (λ nested has m low. let high = low-high nested w m has low in (high.0, high.1, tt)) have) need in
        (by.0, by.1)

    cell-high-low : (w h : ℕ) → w ≤ page → CellNeeds highs lines cell w h → (k : ℕ) × CellNeeds lows lines cell w k × (k ≤ h)
    cell-high-low w h within need =
        cell-by (λ m n. n ≤ m) adds-less highs lows w lines cell h
        (AllByRecursion-weaker HasSound (λ nested. (m : ℕ) → highs nested w m →
        (n : ℕ) × lows nested w n × (n ≤ m)) (tables_in cell)
        (λ nested has m high. high-low nested w m within has high) have) need

    -- where a cell fits it has a height
    abbrev Flat : Table → ℕ → ℕ → Type 0
    Flat nested w h = ((k : ℕ) × lows nested w k) × (h ≡ 0)

    pub cell-fits-low : (fits : Table → ℕ → ℕ → Layout → Type 0) →
        ((nested : Table) (v height : ℕ) (layout : Layout) → fits nested v height layout → Fits nested style v height layout) →
        (w h : ℕ) (parts : List Layout) → FitsRoom fits w h cell parts → (k : ℕ) × CellNeeds lows lines cell w k
    cell-fits-low fits any w h parts room =
        let flat = cell-below fits Flat w lines cell h parts
        (AllByRecursion-weaker HasSound (IsBelowAt fits Flat w) (tables_in cell)
        (λ nested has height layout held. (
          0,
          (fits-low nested w height layout has (any nested w height layout held), refl),
          omega arith,
        )) have) room in
        let by = cell-by (λ m n. Unit {0}) adds-any Flat lows w lines cell flat.0
        (AllByRecursion-weaker HasSound (λ nested. (m : ℕ) → Flat nested w m →
        (n : ℕ) × lows nested w n × Unit {0}) (tables_in cell)
        (λ nested has m low. (low.0.0, low.0.1, tt)) have) flat.1 in
        (by.0, by.1)

    -- and one on the page
    pub cell-wider : (w k : ℕ) → w ≤ page → CellNeeds lows lines cell w k → (h : ℕ) × CellNeeds lows lines cell page h
    cell-wider w k within need =
        let begins = (cell-begins lows lines cell have-low).1 in
        begins.has page (omega (arith, begins.from w k need, within))

    -- ---- its steps

    -- where it has a height on the page it has steps
    pub cell-made : (h : ℕ) → CellNeeds lows lines cell page h → (made : Cell) × IsCellBy lows highs page lines cell made
    cell-made h need =
        let high = cell-low-high page h need in
        let low_begins = cell-begins lows lines cell have-low in
        let high_begins = cell-begins highs lines cell have-high in
        let low_steps = cell-steps lows lines cell have-low page (low_begins.1.from page h need) in
        let high_steps = cell-steps highs lines cell have-high page (high_begins.1.from page high.0 high.1) in (
          record {
            left = cell.place.left;
            right = cell.place.right;
            top = cell.place.top;
            bottom = cell.place.bottom;
            low = low_steps.0;
            high = high_steps.0;
          },
          record { left = refl; right = refl; top = refl; bottom = refl; low = low_steps.1; high = high_steps.1 },
        )

    module _ (made : Cell) (of : IsCellBy lows highs page lines cell made) where
      inside-low : first_width made.low ≤ page
      inside-low = first_width-within page made.low of.low.decreasing of.low.within

      inside-high : first_width made.high ≤ page
      inside-high = first_width-within page made.high of.high.decreasing of.high.within

      pub same-first : first_width made.low ≡ first_width made.high
      same-first =
          let low = first-need lows (inner-functional (λ one. one.low) inner) page lines cell made.low of.low in
          let high = first-need highs (inner-functional (λ one. one.high) inner) page lines cell made.high of.high in
          let there = cell-low-high (first_width made.low) (first_height made.low) low in
          let back = cell-high-low (first_width made.high) (first_height made.high) inside-high high in
          let one = first-least made.high of.high.decreasing (first_width made.low) there.0
          ((of.high.each (first_width made.low) there.0 inside-low).1 there.1) in
          let other = first-least made.low of.low.decreasing (first_width made.high) back.0
          ((of.low.each (first_width made.high) back.0 inside-high).1 back.1) in
          omega (arith, one, other)

      below-within : (h w : ℕ) → w ≤ page → IsLowAt made.high h w → IsLowAt made.low h w
      below-within h w within is =
          let high = height-from_low made.high h w is in
          let low = cell-high-low w high.0 within ((of.high.each w high.0 within).0 high.1) in
          IsLowAt-higher made.low low.0 h w (omega (arith, low.2, high.2))
          (IsLowAt-from made.low low.0 w ((of.low.each w low.0 within).1 low.1))

      pub below-all : (h w : ℕ) → IsLowAt made.high h w → IsLowAt made.low h w
      below-all h w is =
          elim (cases_lt page w) [
            | inr within ↦ below-within h w within is
            | inl past ↦
                let high = height-past page made.high of.high.within w (omega (arith, past)) in
                let low = height-past page made.low of.low.within w (omega (arith, past)) in
                IsLowAt-same made.low h page w low (below-within h page (omega arith)
                (IsLowAt-same made.high h w page (sym high) is))
          ]

  -- a height of a cell is small
  pub high-cell-small : (lines : ℕ) (cell : TableCell) (w h : ℕ) → AllByRecursion HasSound (tables_in (out-TableCell cell)) →
      AllByRecursion (λ block. IsSpeltBlock (out-Content block)) (out-TableCell cell).blocks →
      CellNeeds highs lines (out-TableCell cell) w h →
      h + 2 ≤ 2 * cell_size cell
  high-cell-small lines cell w h have spelt need =
      cell-small highs w lines cell h spelt
      (AllByRecursion-weaker HasSound (λ nested. (m : ℕ) → highs nested w m →
      m ≤ 2 * table_size nested) (tables_in (out-TableCell cell))
      (λ nested has m high. high-small nested w m has high) have) need
