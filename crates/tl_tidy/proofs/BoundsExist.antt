-- A zone has no widths or a bound, and it can be told whether it holds a layout that is low enough: of the widths within a
-- page, and of the heights up to a total, there are finitely many.
use Rattle.std.proofs.Common.{◌≡◌, ℕ, ◌+◌, ◌-◌, ◌*◌, ◌<◌, ◌≤◌, zero, suc, List, [], ◌∷◌, ◌⊎◌, inl, inr, length, sum, get_or}
use Rattle.std.proofs.Common.{replicate, subst, arith}
use Rattle.std.specs.List.{All}
use Rattle.std.proofs.lemmas.Bool.{cases_lt, cases_eq}
use Rattle.std.proofs.lemmas.List.{length-replicate, get_or-replicate}
use Rattle.std.proofs.lemmas.List.Elements.{All-nil, All-cons}
use Rattle.tl_base.specs.Steps.{AreSteps, first_width, IsLowAt}
use Rattle.tl_base.specs.Sizes.{room, IsLeastTotal}
use Rattle.tl_base.proofs.SizeLaws.{room-position, position-mono, position-next, sum-total, sum-range}
use Rattle.tl_problem.specs.declared.cell.Cell.{Cell}
use Rattle.tl_problem.specs.declared.zone.Range.{Range}
use Rattle.tl_problem.specs.Problem.{ProblemModel, total_width, total_height, cell_width, cell_height}
use Rattle.tl_problem.specs.Layouts.{WithinPage, GiveHeights}
use Rattle.tl_problem.specs.Sound.{IsSound}
use Rattle.tl_problem.specs.Zones.{range_at, first_in_class, last_in_class, span_width, IsWidthOf, InZone}
use Rattle.tl_problem.specs.Bounds.{IsGreatestRoom, GiveLow, IsBound}
use Rattle.tl_problem.proofs.Heights.{IsLowAt-higher, IsLowAt-from, IsLowAt-wider, height-from_first}
use Rattle.tl_problem.proofs.OneClass.{IsLowAt-decides}
use Rattle.tl_tidy.specs.Needs.{ZoneHoldsLow, HasLowBound, IsTooHigh}
use Rattle.tl_tidy.proofs.Deciding.{Decides, decide-both, decide-le, decide-all, decide-below, tell-lists}

-- ---- widths

module _ (problem : ProblemModel) where
  decide-page : (widths : List ℕ) → Decides (WithinPage problem widths)
  decide-page widths =
      elim (cases_eq (length widths) problem.cols) [
        | inr other ↦ inr (λ page. other page.columns)
        | inl columns ↦ elim (decide-le (total_width problem widths) problem.width) [
          | inr wide ↦ inr (λ page. wide page.page)
          | inl fits ↦ elim (decide-all (λ cell. first_width cell.low ≤ cell_width problem widths cell)
              (λ cell. decide-le (first_width cell.low) (cell_width problem widths cell)) problem.cells) [
                | inr narrow ↦ inr (λ page. narrow page.cells)
                | inl cells ↦ inl (record { columns = columns; page = fits; cells = cells })
              ]
        ]
      ]

  pub decide-zone : (zone : List Range) (widths : List ℕ) → Decides (InZone problem zone widths)
  decide-zone zone widths =
      elim (decide-page widths) [
        | inr out ↦ inr (λ inside. out inside.page)
        | inl page ↦ elim (decide-below (λ s. IsWidthOf problem zone s (span_width problem widths s))
            (λ s. decide-both (first_in_class problem s (range_at zone s).first ≤ span_width problem widths s)
            (span_width problem widths s ≤ last_in_class problem s (range_at zone s).last)
            (decide-le (first_in_class problem s (range_at zone s).first) (span_width problem widths s))
            (decide-le (span_width problem widths s) (last_in_class problem s (range_at zone s).last))) (length zone)) [
              | inr out ↦ inr (λ inside. out inside.ranges)
              | inl ranges ↦ inl (record { page = page; ranges = ranges })
            ]
      ]

  page-sum : (widths : List ℕ) → WithinPage problem widths → sum widths ≤ problem.width
  page-sum widths page = omega (arith, sum-total problem.spacing.gap problem.spacing.edges widths, page.page)

  -- some widths are found, or none within the page are of the kind
  tell-widths : (P : List ℕ → Type 0) → ((widths : List ℕ) → Decides (P widths)) →
      ((widths : List ℕ) × P widths) ⊎ ((widths : List ℕ) → WithinPage problem widths → P widths → ⊥)
  tell-widths P decide =
      elim (tell-lists P decide problem.width problem.cols) [
        | inl found ↦ inl found
        | inr none ↦ inr (λ widths page holds. none widths page.columns (page-sum widths page) holds)
      ]

-- ---- the bound of a set of widths that has some, and of which it can be told which it has

module _ (problem : ProblemModel) (sound : IsSound problem) (Among : List ℕ → Type 0)
    (decide : (widths : List ℕ) → Decides (Among widths))
    (page : (widths : List ℕ) → Among widths → WithinPage problem widths) (some : List ℕ) (has : Among some) where
  greatest-upto : (left right n : ℕ) → ((widths : List ℕ) → Among widths → room problem.spacing.gap widths left right ≤ n) →
      (w : ℕ) × IsGreatestRoom problem Among left right w
  greatest-upto left right zero most = (
    0,
    record {
      attained = (some, has, omega (arith, most some has));
      never_more = most;
    },
  )
  greatest-upto left right (suc n) most =
      elim (tell-widths problem (λ widths. Among widths × (room problem.spacing.gap widths left right ≡ suc n))
      (λ widths. decide-both (Among widths) (room problem.spacing.gap widths left right ≡ suc n) (decide widths)
      (cases_eq (room problem.spacing.gap widths left right) (suc n)))) [
        | inl found ↦ (suc n, record { attained = (found.0, found.1.0, found.1.1); never_more = most })
        | inr none ↦ greatest-upto left right n (λ widths among.
            elim (cases_lt n (room problem.spacing.gap widths left right)) [
              | inl more ↦ absurd (none widths (page widths among) (among, omega (arith, more, most widths among)))
              | inr less ↦ less
            ])
      ]

  greatest : (left right : ℕ) → (w : ℕ) × IsGreatestRoom problem Among left right w
  greatest left right = greatest-upto left right (problem.width + problem.spacing.gap * (right - left - 1))
      (λ widths among. omega (arith, sum-range widths left right, page-sum problem widths (page widths among)))

  decide-give : (heights : List ℕ) → Decides (GiveLow problem Among heights)
  decide-give heights =
      elim (cases_eq (length heights) problem.rows) [
        | inr other ↦ inr (λ give. other give.rows)
        | inl rows ↦ elim (decide-all Given decide-cell problem.cells) [
          | inr none ↦ inr (λ give. none give.cells)
          | inl cells ↦ inl (record { rows = rows; cells = cells })
        ]
      ] where
        Given : Cell → Type 0
        Given cell = (w : ℕ) → IsGreatestRoom problem Among cell.left cell.right w →
            IsLowAt cell.low (cell_height problem heights cell) w

        decide-cell : (cell : Cell) → Decides (Given cell)
        decide-cell cell =
            let most = greatest cell.left cell.right in
            elim (IsLowAt-decides cell.low (cell_height problem heights cell) most.0) [
              | inr high ↦ inr (λ given. high (given most.0 most.1))
              | inl low ↦ inl (λ w is.
                  let one = is.attained in
                  let other = most.1.attained in
                  let same : most.0 ≡ w = omega (
                    arith,
                    is.never_more other.0 other.1,
                    other.2,
                    most.1.never_more one.0 one.1,
                    one.2,
                  ) in
                  subst (IsLowAt cell.low (cell_height problem heights cell)) same low)
            ]

  -- ---- heights that are enough

  -- the first of the sizes of a span is within its room
  room-first : (gap : ℕ) (sizes : List ℕ) (from past : ℕ) → from < past → past ≤ length sizes →
      get_or sizes from 0 ≤ room gap sizes from past
  room-first gap sizes from past ahead within = omega (
    arith,
    room-position gap sizes from past ahead,
    position-next gap sizes from (omega (arith, ahead, within)),
    position-mono gap sizes (from + 1) past (omega (arith, ahead)),
  )

  -- one height is enough for each of some cells at its least width
  enough : (cells : List Cell) → All (λ cell. AreSteps cell.low) cells →
      (h : ℕ) × All (λ cell. IsLowAt cell.low h (first_width cell.low)) cells
  enough [] each = (0, All-nil (λ cell. IsLowAt cell.low 0 (first_width cell.low)))
  enough (cell ∷ cells) each =
      let first = height-from_first cell.low (each 0 cell (omega arith)).has_step (first_width cell.low) (omega arith) in
      let rest = enough cells (λ k d within. each (suc k) d (omega arith)) in (
        first.0 + rest.0,
        All-cons (λ c. IsLowAt c.low (first.0 + rest.0) (first_width c.low)) cell cells
            (IsLowAt-higher cell.low first.0 (first.0 + rest.0) (first_width cell.low) (omega arith)
            (IsLowAt-from cell.low first.0 (first_width cell.low) first.1))
            (λ k d within. IsLowAt-higher (get_or cells k d).low rest.0 (first.0 + rest.0) (first_width (get_or cells k d).low)
            (omega arith) (rest.1 k d within)),
      )

  some-heights : (heights : List ℕ) × GiveLow problem Among heights
  some-heights =
      let tall = enough problem.cells (λ k d within. (sound.cells k d within).steps.0) in (
        replicate problem.rows tall.0,
        record {
          rows = length-replicate problem.rows tall.0;
          cells = λ k d within w is.
              let cell = get_or problem.cells k d in
              let good = sound.cells k d within in
              let one = is.attained in
              let wide = (page one.0 one.1).cells k d within in
              let count = length-replicate problem.rows tall.0 in
              let here = get_or-replicate problem.rows cell.top tall.0 0 (omega (arith, good.rows.0, good.rows.1)) in
              let fits = room-first problem.spacing.row_gap (replicate problem.rows tall.0) cell.top cell.bottom good.rows.0
              (omega (arith, good.rows.1, count)) in
              IsLowAt-higher cell.low tall.0 (cell_height problem (replicate problem.rows tall.0) cell) w
              (omega (arith, here, fits))
              (IsLowAt-wider cell.low good.steps.0 tall.0 (first_width cell.low) w (omega (arith, wide, one.2))
              (tall.1 k d within));
        },
      )

  least-upto : (n : ℕ) (heights : List ℕ) → GiveLow problem Among heights → total_height problem heights ≤ n →
      (bound : ℕ) × IsLeastTotal problem.spacing.row_gap problem.spacing.lines (GiveLow problem Among) bound
  least-upto zero heights give low = (
    0,
    record {
      attained = (heights, give, omega (arith, low));
      never_less = λ other also. omega arith;
    },
  )
  least-upto (suc n) heights give low =
      elim (tell-lists (λ other. GiveLow problem Among other × (total_height problem other ≤ n))
      (λ other. decide-both (GiveLow problem Among other) (total_height problem other ≤ n) (decide-give other)
      (decide-le (total_height problem other) n)) n problem.rows) [
        | inl found ↦ least-upto n found.0 found.1.0 found.1.1
        | inr none ↦
            let more = λ (other : List ℕ) (also : GiveLow problem Among other). above none other also in (
              suc n,
              record {
                attained = (heights, give, omega (arith, low, more heights give));
                never_less = more;
              },
            )
      ] where
        above : ((other : List ℕ) → length other ≡ problem.rows → sum other ≤ n →
            GiveLow problem Among other × (total_height problem other ≤ n) → ⊥) →
            (other : List ℕ) → GiveLow problem Among other → suc n ≤ total_height problem other
        above none other also =
            elim (cases_lt n (total_height problem other)) [
              | inl more ↦ omega (arith, more)
              | inr less ↦ absurd (none other also.rows
                  (omega (arith, less, sum-total problem.spacing.row_gap problem.spacing.lines other)) (also, less))
            ]

  pub bound-exists : (bound : ℕ) × IsBound problem Among bound
  bound-exists =
      let heights = some-heights in
      let least = least-upto (total_height problem heights.0) heights.0 heights.1 (omega arith) in
      (least.0, record { some = (some, has); least = least.1 })

module _ (problem : ProblemModel) (sound : IsSound problem) where
  -- a zone has a low bound, or is too high
  pub low-or_high : (height : ℕ) (zone : List Range) → HasLowBound problem height zone ⊎ IsTooHigh problem height zone
  low-or_high height zone =
      elim (tell-widths problem (InZone problem zone) (decide-zone problem zone)) [
        | inr none ↦ inr (inl (λ widths inside. none widths inside.page inside))
        | inl found ↦
            let bound = bound-exists problem sound (InZone problem zone) (decide-zone problem zone)
            (λ widths inside. inside.page) found.0 found.1 in
            elim (cases_lt height bound.0) [
              | inl above ↦ inr (inr (bound.0, bound.1, above))
              | inr low ↦ inl (bound.0, bound.1, low)
            ]
      ]

-- ---- layouts

module _ (problem : ProblemModel) (height : ℕ) where
  abbrev IsLowUnder : List ℕ → List ℕ → Type 0
  IsLowUnder widths heights = GiveHeights problem (λ cell. cell.low) widths heights × (total_height problem heights ≤ height)

  decide-give_heights : (widths heights : List ℕ) → Decides (GiveHeights problem (λ cell. cell.low) widths heights)
  decide-give_heights widths heights =
      elim (cases_eq (length heights) problem.rows) [
        | inr other ↦ inr (λ give. other give.rows)
        | inl rows ↦ elim (decide-all
            (λ cell. IsLowAt cell.low (cell_height problem heights cell) (cell_width problem widths cell))
            (λ cell. IsLowAt-decides cell.low (cell_height problem heights cell) (cell_width problem widths cell)) problem.cells) [
              | inr none ↦ inr (λ give. none give.cells)
              | inl cells ↦ inl (record { rows = rows; cells = cells })
            ]
      ]

  decide-under : (widths : List ℕ) → Decides ((heights : List ℕ) × IsLowUnder widths heights)
  decide-under widths =
      elim (tell-lists (IsLowUnder widths)
      (λ heights. decide-both (GiveHeights problem (λ cell. cell.low) widths heights) (total_height problem heights ≤ height)
      (decide-give_heights widths heights) (decide-le (total_height problem heights) height)) height problem.rows) [
        | inl found ↦ inl found
        | inr none ↦ inr (λ low. none low.0 low.1.0.rows
            (omega (arith, low.1.1, sum-total problem.spacing.row_gap problem.spacing.lines low.0)) low.1)
      ]

  -- it can be told whether a zone holds a layout that is low enough
  pub decide-holds : (zone : List Range) → Decides (ZoneHoldsLow problem height zone)
  decide-holds zone =
      elim (tell-widths problem (λ widths. InZone problem zone widths × ((heights : List ℕ) × IsLowUnder widths heights))
      (λ widths. decide-both (InZone problem zone widths) ((heights : List ℕ) × IsLowUnder widths heights)
      (decide-zone problem zone widths) (decide-under widths))) [
        | inl found ↦ inl (record {
          widths = found.0;
          heights = found.1.1.0;
          among = found.1.0;
          layout = record { page = found.1.0.page; enough = found.1.1.1.0 };
          low = found.1.1.1.1;
        })
        | inr none ↦ inr (λ holds. none holds.widths holds.layout.page
            (holds.among, (holds.heights, (holds.layout.enough, holds.low))))
      ]
