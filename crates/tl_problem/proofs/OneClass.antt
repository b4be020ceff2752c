-- In a zone of one class for each span, where `low` and `high` agree, every placement has the zone's bound as its height.
use Rattle.std.proofs.Common.{◌≡◌, ℕ, ◌+◌, ◌<◌, ◌≤◌, zero, suc, List, ◌⊎◌, inl, inr, length, get_or, Option, Some, None, refl}
use Rattle.std.proofs.Common.{sym, ap, ◌∙◌, subst, arith}
use Rattle.std.specs.List.{All, Contains}
use Rattle.std.specs.Option.{IsSomeAnd}
use Rattle.std.proofs.lemmas.Bool.{cases_lt}
use Rattle.std.proofs.lemmas.List.{get_or_default}
use Rattle.std.proofs.lemmas.List.Elements.{Contains-get_or}
use Rattle.tl_base.specs.declared.steps.Config.{Config}
use Rattle.tl_base.specs.Steps.{height_at, IsLowAt}
use Rattle.tl_problem.specs.declared.cell.Cell.{Cell}
use Rattle.tl_problem.specs.declared.zone.Range.{Range}
use Rattle.tl_base.specs.Sizes.{room}
use Rattle.tl_problem.specs.Problem.{ProblemModel, total_height, cell_width, cell_height}
use Rattle.tl_problem.specs.Layouts.{GiveHigh}
use Rattle.tl_problem.specs.Sound.{IsSound}
use Rattle.tl_problem.specs.Spans.{span, has_span, spans_of, page_room}
use Rattle.tl_problem.specs.Zones.{span_at, range, range_at, first_in_class, IsZone, InZone}
use Rattle.tl_problem.specs.Agreement.{HasOneClass, AgreeIn}
use Rattle.tl_problem.specs.Bounds.{IsGreatestRoom, GiveLow, IsBound}
use Rattle.tl_problem.specs.Placements.{AreLeast}
use Rattle.tl_problem.proofs.Heights.{IsLowAt-same}
use Rattle.tl_problem.proofs.SpanLaws.{has_span-from, spans-Contains, room-in_page, class-same_low}
use Rattle.tl_problem.proofs.BoundLaws.{bound-below_layout, low-from_high}
use Rattle.tl_problem.proofs.TightLaws.{least-total}

-- whether so many lines are enough can be told
pub IsLowAt-decides : (steps : List Config) (h w : ℕ) → IsLowAt steps h w ⊎ (IsLowAt steps h w → ⊥)
IsLowAt-decides steps h w = decides (height_at steps w) where
  decides : (o : Option ℕ) → IsSomeAnd o (λ height. height ≤ h) ⊎ (IsSomeAnd o (λ height. height ≤ h) → ⊥)
  decides None = inr (λ none. none)
  decides (Some height) = elim (cases_lt h height) [ inl above ↦ inr (λ le. omega arith) | inr enough ↦ inl enough ]

-- a set that has widths, none of which give the span more than some room, cannot be without a greatest room
module _ (problem : ProblemModel) (Among : List ℕ → Type 0) (left right most : ℕ) (limit : (widths : List ℕ) → Among widths →
    room problem.spacing.gap widths left right ≤ most)
    (none : (w : ℕ) → IsGreatestRoom problem Among left right w → ⊥) where
  nearer : (n : ℕ) (widths : List ℕ) → Among widths → most ≤ room problem.spacing.gap widths left right + n → ⊥
  nearer zero widths among close = none (room problem.spacing.gap widths left right) (record {
    attained = (widths, among, refl);
    never_more = λ other also. let below = limit other also in omega (arith, below, close);
  })
  nearer (suc n) widths among close = none (room problem.spacing.gap widths left right) (record {
    attained = (widths, among, refl);
    never_more = λ other also.
        elim (cases_lt (room problem.spacing.gap widths left right) (room problem.spacing.gap other left right)) [
          | inl more ↦ absurd (nearer n other also (omega (arith, close, more)))
          | inr less ↦ less
        ];
  })

  pub greatest-not_none : (widths : List ℕ) → Among widths → ⊥
  greatest-not_none widths among = nearer most widths among (omega arith)

-- the number of a cell's span
pub span-number : (problem : ProblemModel) → IsSound problem → (cell : Cell) → Contains problem.cells cell →
    (s : ℕ) × (s < length (spans_of problem)) × (span_at problem s ≡ span cell.left cell.right)
span-number problem sound cell has =
    let found = spans-Contains problem sound cell has in
    (found.0, found.1, get_or_default (spans_of problem) found.0 (span 0 0) (span cell.left cell.right) found.1 ∙ found.2)

module _ (problem : ProblemModel) (sound : IsSound problem) (zone : List Range) (is : IsZone problem zone)
    (one : HasOneClass zone)
    (agree : AgreeIn problem zone) where
  -- heights that give each cell its `low` at the greatest room give it its `high` at each room in the zone
  pub high-from_greatest : (widths heights : List ℕ) → InZone problem zone widths →
      GiveLow problem (InZone problem zone) heights →
      GiveHigh problem widths heights
  high-from_greatest widths heights inside give = record { rows = give.rows; cells = enough } where
    enough : All (λ cell. IsLowAt cell.high (cell_height problem heights cell) (cell_width problem widths cell)) problem.cells
    enough k d within =
        let cell = get_or problem.cells k d in
        let h = cell_height problem heights cell in
        let v = cell_width problem widths cell in
        let has = Contains-get_or problem.cells k d within in
        let number = span-number problem sound cell has in
        let s = number.0 in
        let there : s < length zone = omega (arith, number.1, is.spans) in
        let class = (range_at zone s).last in
        let single : (range_at zone s).first ≡ (range_at zone s).last = one s (range 0 0) there in
        let same = ap (λ columns. has_span columns cell) number.2 ∙ has_span-from (span cell.left cell.right) cell refl refl in
        let width_is = λ (ws : List ℕ). ap (λ columns. room problem.spacing.gap ws columns.left columns.right) number.2 in
        let here = inside.ranges s there in
        let from = ap (first_in_class problem s) single in
        elim (IsLowAt-decides cell.high h v) [
          | inl low ↦ low
          | inr high ↦ absurd (greatest-not_none problem (InZone problem zone) cell.left cell.right (page_room problem)
              (λ ws among. room-in_page problem ws among.page cell.left cell.right (sound.cells k d within).columns.0
              (sound.cells k d within).columns.1)
              (λ w greatest. high (
              let some = greatest.attained in
              let there_too = some.1.ranges s there in
              let more = greatest.never_more widths inside in
              let unchanged = class-same_low problem sound s class (is.ranges s there).1 cell has same v w more
              (omega (arith, here.0, width_is widths, from)) (omega (arith, there_too.1, width_is some.0, some.2)) in
              let low = IsLowAt-same cell.low h w v (sym unchanged) (give.cells k d within w greatest) in
              subst (λ o. IsSomeAnd o (λ height. height ≤ h))
              (agree s v cell there (omega (arith, here.0, width_is widths), omega (arith, here.1, width_is widths)) has same)
              low))
              widths inside)
        ]

  pub one_class-height : (widths heights : List ℕ) (bound : ℕ) → InZone problem zone widths →
      AreLeast problem.spacing.row_gap (GiveHigh problem widths) heights →
      IsBound problem (InZone problem zone) bound → total_height problem heights ≡ bound
  one_class-height widths heights bound inside least bounds =
      let below = bound-below_layout problem sound (InZone problem zone) bound widths heights bounds inside
      (record { page = inside.page; enough = low-from_high problem sound widths heights least.kind }) in
      let rows = bounds.least.attained in
      let enough = high-from_greatest widths rows.0 inside rows.1 in
      let above = least-total problem.spacing.row_gap problem.spacing.lines (GiveHigh problem widths)
      heights rows.0 least enough
      (least.kind.rows ∙ sym rows.1.rows) in
      omega (arith, below, above, rows.2)
