-- Heaviest paths over the cells give the least sizes that meet what the cells demand: such sizes are the rises between
-- the weights of heaviest paths, and no sizes that meet all demands are less than a path's weight.
use Rattle.std.proofs.Common.{◌≡◌, ℕ, ◌+◌, ◌-◌, ◌*◌, ◌<◌, ◌≤◌, zero, suc, List, [], ◌∷◌, inl, inr, length, get_or, map, take, sum}
use Rattle.std.proofs.Common.{refl, sym, ap, ◌∙◌}
use Rattle.std.proofs.Common.{subst, arith}
use Rattle.std.specs.List.{All, sum_by}
use Rattle.std.proofs.lemmas.Bool.{cases_lt}
use Rattle.std.proofs.lemmas.List.{length-append, take_all, take-append-le, length-map, get_or-map, get_or_default}
use Rattle.std.proofs.lemmas.List.Sums.{sum_by-append, sum_by-cons}
use Rattle.std.proofs.Math.Nat.{mul-le-mul}
use Rattle.tl_base.specs.declared.limits.TheConstants.{MAX_COLUMNS, MAX_ROWS}
use Rattle.tl_diff.specs.declared.paths.Arc.{Arc}
use Rattle.tl_diff.specs.Paths.{arc_at, IsPath, path_weight, total_weight, LeadForward, InOrder}
use Rattle.tl_diff.proofs.PathLaws.{IsHeaviest-further, IsHeaviest-along}
use Rattle.tl_problem.specs.declared.axis.Axis.{Axis}
use Rattle.tl_problem.specs.declared.axis.Axis.TheVariants.{Columns, Rows}
use Rattle.tl_problem.specs.declared.axis.Turn.{Turn}
use Rattle.tl_problem.specs.declared.cell.Cell.{Cell}
use Rattle.tl_base.specs.Sizes.{position, room, total, IsLeastTotal}
use Rattle.tl_problem.specs.Problem.{ProblemModel}
use Rattle.tl_problem.specs.Sound.{IsSound, IsSoundCell}
use Rattle.tl_problem.specs.Placements.{AreLeast}
use Rattle.tl_problem.specs.inner.Axes.{start_of, end_of, count_on, gap_on, turn}
use Rattle.tl_problem.specs.inner.Demands.{cell_at, cell_arc, arc_for, AreArcs, GiveDemands, HaveEnds, rises}
use Rattle.tl_base.proofs.SizeLaws.{room-position, total-position, total-le, take-between}
use Rattle.tl_problem.proofs.Rectangles.{amount, late, areas-within}
use Rattle.tl_problem.proofs.AxisLemmas.{IsTurn, order-length, order-turns, order-all, order-sum}

-- a sound cell begins before it ends, within the grid
pub sound-axis : (problem : ProblemModel) (axis : Axis) (cell : Cell) → IsSoundCell problem cell →
    (start_of axis cell < end_of axis cell) × (end_of axis cell ≤ count_on axis problem)
sound-axis problem Columns cell is = is.columns
sound-axis problem Rows cell is = is.rows

-- columns and rows are few
pub count-few : (problem : ProblemModel) (axis : Axis) → IsSound problem → count_on axis problem ≤ MAX_ROWS + 1
count-few problem Columns sound = omega (arith, sound.few_columns)
count-few problem Rows sound = sound.few_rows

-- cells share no slot, so that there are no more of them than slots
pub few-cells : (problem : ProblemModel) → IsSound problem → length problem.cells ≤ MAX_COLUMNS * (MAX_ROWS + 1)
few-cells problem sound =
    let all = areas-within (λ (c : Cell). c.left) (λ (c : Cell). c.right) (λ (c : Cell). c.top) (λ (c : Cell). c.bottom)
    (λ n. n) (λ n. n)
    (λ n. omega arith) (λ n. omega arith) refl refl
    problem.cells problem.cols problem.rows sound.apart in
    let each = count-le area problem.cells (λ k d within. one-at-least (get_or problem.cells k d) (sound.cells k d within)) in
    let product = mul-le-mul sound.few_columns sound.few_rows in
    omega (arith, all, each, product) where
      area : Cell → ℕ
      area c = amount (λ n. n) (λ n. omega arith) c.left c.right problem.cols * amount (λ n. n) (λ n. omega arith)
          c.top c.bottom problem.rows

      count-le : (f : Cell → ℕ) (cells : List Cell) → All (λ c. 1 ≤ f c) cells → length cells ≤ sum_by f cells
      count-le f [] some = omega arith
      count-le f (c ∷ cells) some =
          let rest = count-le f cells (λ k d within. some (suc k) d (omega arith)) in
          let first = some 0 c (omega arith) in
          omega (arith, rest, first, sum_by-cons f c cells)

      one-at-least : (c : Cell) → IsSoundCell problem c → 1 ≤ area c
      one-at-least c is =
          let wide = late (λ n. n) (λ n. omega arith) c.left c.right problem.cols (omega (arith, is.columns.0)) is.columns.1 in
          let high = late (λ n. n) (λ n. omega arith) c.top c.bottom problem.rows (omega (arith, is.rows.0)) is.rows.1 in
          positive (amount (λ n. n) (λ n. omega arith) c.left c.right problem.cols)
          (amount (λ n. n) (λ n. omega arith) c.top c.bottom problem.rows)
          (omega (arith, wide, is.columns.0)) (omega (arith, high, is.rows.0)) where
            positive : (a b : ℕ) → 1 ≤ a → 1 ≤ b → 1 ≤ a * b
            positive a b first second = let m = mul-le-mul first second in omega (arith, m)

-- ---- the rises of numbers

pub rises-length : (f : ℕ → ℕ) (n : ℕ) → length (rises f n) ≡ n
rises-length f zero = refl
rises-length f (suc n) = omega (arith, length-append (rises f n) ((f (n + 1) - f n) ∷ []), rises-length f n)

pub rises-sum : (f : ℕ → ℕ) (n : ℕ) → ((k : ℕ) → k < n → f k ≤ f (k + 1)) → (k : ℕ) → k ≤ n → sum (take k (rises f n)) + f 0 ≡ f k
rises-sum f zero rising k up = let none : k ≡ 0 = omega arith in rw none (omega arith)
rises-sum f (suc n) rising k up =
    elim (cases_lt n k) [
      | inr low ↦
          let inside : k ≤ length (rises f n) = omega (arith, rises-length f n) in
          rw (take-append-le k (rises f n) ((f (n + 1) - f n) ∷ []) inside)
          (rises-sum f n (λ j below. rising j (omega arith)) k low)
      | inl last ↦
          let all : k ≡ suc n = omega arith in
          let whole = take_all (suc n) (rises f (suc n)) (omega (arith, rises-length f (suc n))) in
          let split = sum_by-append (λ x. x) (rises f n) ((f (n + 1) - f n) ∷ []) in
          let before = rises-sum f n (λ j below. rising j (omega arith)) n (omega arith) in
          let full = ap sum (take_all n (rises f n) (omega (arith, rises-length f n))) in
          let step = rising n (omega arith) in
          let next : f (n + 1) ≡ f (suc n) = ap f (omega arith) in
          let one : sum_by (λ x. x) ((f (n + 1) - f n) ∷ []) ≡ f (n + 1) - f n = omega arith in
          rw (all, whole) (omega (arith, split, before, full, step, next, one))
    ]

-- ---- sums of prefixes

pub sum_take-mono : (sizes : List ℕ) (from past : ℕ) → from ≤ past → sum (take from sizes) ≤ sum (take past sizes)
sum_take-mono sizes from past more =
    let whole : from + (past - from) ≡ past = omega arith in
    omega (arith, rw whole at (take-between sizes from (past - from)))

-- the room of a span, by the sums of the sizes before its ends
pub room-sums : (gap : ℕ) (sizes : List ℕ) (from past : ℕ) → from < past →
    room gap sizes from past + sum (take from sizes) ≡ sum (take past sizes) + gap * (past - from - 1)
room-sums gap sizes from past ahead =
    let places = room-position gap sizes from past ahead in
    let gaps = gaps_between gap from (past - from - 1) in
    let count : from + (past - from - 1) + 1 ≡ past = omega arith in
    let counted = rw count at gaps in
    omega (arith, places, counted) where
      gaps_between : (gap from inner : ℕ) → gap * (from + inner + 1) ≡ gap * inner + gap + gap * from
      gaps_between gap from inner = grind arith

-- ---- arcs of cells

weights-le : (f : Turn → Arc) (g : Turn → ℕ) (order : List Turn) → ((t : Turn) → (f t).weight ≤ g t) →
    total_weight (map f order) ≤ sum_by g order
weights-le f g [] less = omega arith
weights-le f g (t ∷ order) less =
    let first = less t in
    let rest = weights-le f g order less in
    omega (arith, first, rest, sum_by-cons (λ (e : Arc). e.weight) (f t) (map f order), sum_by-cons g t order)

module _ (problem : ProblemModel) (axis : Axis) (demands : List ℕ) (arcs : List Arc)
    (are : AreArcs problem axis demands arcs) where
  abbrev arc_of : Turn → Arc
  arc_of t = arc_for problem axis demands t.cell

  abbrev turn_at : ℕ → Turn
  turn_at i = get_or are.order i (turn 0 0)

  pub arcs-length : length arcs ≡ length problem.cells
  arcs-length = ap length are.are ∙ length-map are.order arc_of ∙ order-length axis problem.cells are.order are.ordered

  arcs-at : (i : ℕ) → i < length arcs → arc_at arcs i ≡ arc_of (turn_at i)
  arcs-at i there =
      let inside : i < length are.order = omega (arith, arcs-length, order-length axis problem.cells are.order are.ordered) in
      ap (λ es. arc_at es i) are.are ∙ get_or-map arc_of are.order i (turn 0 0) (record { from = 0; to = 0; weight = 0 }) inside

  turns : (i : ℕ) → i < length arcs → IsTurn axis problem.cells (turn_at i)
  turns i there = order-turns axis problem.cells are.order are.ordered i (turn 0 0)
      (omega (arith, arcs-length, order-length axis problem.cells are.order are.ordered))

  -- the arc with a number is that of some cell
  pub arcs-cell : (i : ℕ) → i < length arcs → (k : ℕ) × ((k < length problem.cells) ×
      (arc_at arcs i ≡ arc_for problem axis demands k))
  arcs-cell i there = ((turn_at i).cell, ((turns i there).0, arcs-at i there))

  -- each cell has its arc
  pub cell-arc : (k : ℕ) → k < length problem.cells → (i : ℕ) ×
      ((i < length arcs) × (arc_at arcs i ≡ arc_for problem axis demands k))
  cell-arc k within =
      let has = order-all axis problem.cells are.order are.ordered k within in
      let there : has.0 < length arcs = omega (
        arith,
        has.1,
        arcs-length,
        order-length axis problem.cells are.order are.ordered,
      ) in
      let at = get_or_default are.order has.0 (turn 0 0) (turn (start_of axis (cell_at problem.cells k)) k) has.1 in
      (has.0, (there, arcs-at has.0 there ∙ ap arc_of (at ∙ has.2)))

  pub arcs-forward : LeadForward (count_on axis problem) arcs
  arcs-forward i there =
      let found = arcs-cell i there in
      subst (λ e. (e.from < e.to) × (e.to ≤ count_on axis problem)) (sym found.1.1)
      (sound-axis problem axis (cell_at problem.cells found.0) (are.sound.cells found.0 _ found.1.0))

  pub arcs-in_order : InOrder arcs
  arcs-in_order i j less there =
      let first : i < length arcs = omega arith in
      let rising = are.ordered.rising i j (turn 0 0) (omega arith)
      (omega (arith, arcs-length, order-length axis problem.cells are.order are.ordered)) in
      let one = (turns i first).1 in
      let other = (turns j there).1 in
      omega (arith, ap (λ e. e.from) (arcs-at i first), ap (λ e. e.from) (arcs-at j there), rising, one, other)

  pub arcs-weight : length demands ≡ length problem.cells → total_weight arcs ≤ sum demands
  arcs-weight same =
      let less = weights-le arc_of (λ t. get_or demands t.cell 0) are.order (λ t. omega arith) in
      omega (arith, ap total_weight are.are, less, order-sum axis problem.cells are.order are.ordered demands same)

  -- ---- no sizes that meet all demands are less than a path's weight

  module _ (sizes : List ℕ) (give : GiveDemands problem axis demands sizes) where
    arc-below : (i : ℕ) → i < length arcs → sum (take (arc_at arcs i).from sizes) + (arc_at arcs i).weight ≤ sum
        (take (arc_at arcs i).to sizes)
    arc-below i there =
        let found = arcs-cell i there in
        let cell = cell_at problem.cells found.0 in
        let ahead = sound-axis problem axis cell (are.sound.cells found.0 _ found.1.0) in
        let enough = give.cells found.0 found.1.0 in
        let sums = room-sums (gap_on axis problem) sizes (start_of axis cell) (end_of axis cell) ahead.0 in
        let mono = sum_take-mono sizes (start_of axis cell) (end_of axis cell) (omega (arith, ahead.0)) in
        subst (λ e. sum (take e.from sizes) + e.weight ≤ sum (take e.to sizes)) (sym found.1.1)
        (omega (arith, enough, sums, mono))

    pub path-below : (p : ℕ) (is : List ℕ) (k : ℕ) → IsPath arcs p is k →
        sum (take p sizes) + path_weight arcs is ≤ sum (take k sizes)
    path-below p [] k path = omega (arith, sum_take-mono sizes p k path)
    path-below p (i ∷ is) k path =
        let rest = path-below (arc_at arcs i).to is k path.2 in
        let first = arc-below i path.0 in
        let before = sum_take-mono sizes p (arc_at arcs i).from path.1 in
        omega (arith, rest, first, before, sum_by-cons (λ j. (arc_at arcs j).weight) i is)

-- a path goes forward
path-ahead : (n : ℕ) (arcs : List Arc) → LeadForward n arcs → (p : ℕ) (is : List ℕ) (k : ℕ) → IsPath arcs p is k → p ≤ k
path-ahead n arcs forward p [] k path = path
path-ahead n arcs forward p (i ∷ is) k path = omega (
  arith,
  path.1,
  forward i path.0,
  path-ahead n arcs forward (arc_at arcs i).to is k path.2,
)

-- ---- the least sizes

module _ (problem : ProblemModel) (axis : Axis) (demands ends : List ℕ) (h : HaveEnds problem axis demands ends) where
  abbrev pub end_at : ℕ → ℕ
  end_at k = get_or ends k 0

  abbrev pub sizes : List ℕ
  sizes = rises end_at (count_on axis problem)

  pub ends-start : end_at 0 ≡ 0
  ends-start =
      let r = (h.heaviest 0 (omega arith)).reached in
      none r.0 r.1.0 r.1.1 where
        none : (is : List ℕ) → IsPath h.arcs 0 is 0 → path_weight h.arcs is ≡ end_at 0 → end_at 0 ≡ 0
        none [] path weighs = sym weighs
        none (i ∷ is) path weighs =
            let forward = arcs-forward problem axis demands h.arcs h.are in
            absurd (omega (
              arith,
              forward i path.0,
              path-ahead (count_on axis problem) h.arcs forward
                  (arc_at h.arcs i).to is 0 path.2,
            ))

  pub ends-rise : (k : ℕ) → k < count_on axis problem → end_at k ≤ end_at (k + 1)
  ends-rise k below = IsHeaviest-further h.arcs k (k + 1) (end_at k) (end_at (k + 1)) (h.heaviest k (omega arith))
      (h.heaviest (k + 1) (omega arith))
      (omega arith)

  pub sizes-sum : (k : ℕ) → k ≤ count_on axis problem → sum (take k sizes) ≡ end_at k
  sizes-sum k up = omega (arith, rises-sum end_at (count_on axis problem) ends-rise k up, ends-start)

  pub sizes-give : GiveDemands problem axis demands sizes
  sizes-give = record {
    count = rises-length end_at (count_on axis problem);
    cells = λ k within.
        let cell = cell_at problem.cells k in
        let found = cell-arc problem axis demands h.arcs h.are k within in
        let ahead = sound-axis problem axis cell (h.are.sound.cells k _ within) in
        let first : end_at (start_of axis cell) + (cell_arc axis (gap_on axis problem) cell
        (get_or demands k 0)).weight ≤ end_at (end_of axis cell) =
        reached cell found.0 found.1.0 (get_or demands k 0) found.1.1 ahead in
        let sums = room-sums (gap_on axis problem) sizes (start_of axis cell) (end_of axis cell) ahead.0 in
        let one = sizes-sum (start_of axis cell) (omega (arith, ahead)) in
        let other = sizes-sum (end_of axis cell) ahead.1 in
        omega (arith, first, sums, one, other);
  } where
    reached : (cell : Cell) (i : ℕ) → i < length h.arcs → (demand : ℕ) →
        arc_at h.arcs i ≡ cell_arc axis (gap_on axis problem) cell demand →
        (start_of axis cell < end_of axis cell) × (end_of axis cell ≤ count_on axis problem) →
        end_at (start_of axis cell) + (cell_arc axis (gap_on axis problem) cell demand).weight ≤ end_at (end_of axis cell)
    reached cell i there demand is ahead =
        let along = IsHeaviest-along h.arcs i (end_at (arc_at h.arcs i).from) (end_at (arc_at h.arcs i).to) there
        (h.heaviest (arc_at h.arcs i).from (omega (arith, ap (λ e. e.from) is, ahead.0, ahead.1)))
        (h.heaviest (arc_at h.arcs i).to (omega (arith, ap (λ e. e.to) is, ahead.1))) in
        subst (λ e. end_at e.from + e.weight ≤ end_at e.to) is along

  -- at each place no other sizes that give the demands are less
  pub sizes-below : (other : List ℕ) → GiveDemands problem axis demands other → (k : ℕ) → k ≤ count_on axis problem →
      sum (take k sizes) ≤ sum (take k other)
  sizes-below other give k up =
      let r = (h.heaviest k up).reached in
      let path = path-below problem axis demands h.arcs h.are other give 0 r.0 k r.1.0 in
      omega (arith, sizes-sum k up, path, r.1.1)

  pub sizes-least : AreLeast (gap_on axis problem) (GiveDemands problem axis demands) sizes
  sizes-least = record {
    kind = sizes-give;
    earliest = λ other give place within. omega (
      arith,
      sizes-below other give place
          (omega (arith, rises-length end_at (count_on axis problem))),
    );
  }

-- the least total height
module _ (problem : ProblemModel) (demands ends : List ℕ) (h : HaveEnds problem Rows demands ends) where
  pub least_total-none : problem.rows ≡ 0 → IsLeastTotal problem.spacing.row_gap problem.spacing.lines
      (GiveDemands problem Rows demands) 0
  least_total-none none = record {
    attained = (
      [],
      record {
        count = sym none;
        cells = λ k within. let is = (h.are.sound.cells k (cell_at problem.cells k) within).rows in
            absurd (omega (arith, is.0, is.1, none));
      },
      refl,
    );
    never_less = λ sizes give. omega arith;
  }

  gaps_more : (gap n : ℕ) → gap * (n + 1) ≡ gap * n + gap
  gaps_more gap n = grind arith

  total-is : 0 < problem.rows → total problem.spacing.row_gap problem.spacing.lines (sizes problem Rows demands ends h) ≡
      get_or ends problem.rows 0 + problem.spacing.row_gap * (problem.rows - 1) + problem.spacing.lines
  total-is some =
      let least = sizes problem Rows demands ends h in
      let count = rises-length (λ k. get_or ends k 0) problem.rows in
      let whole = total-position problem.spacing.row_gap problem.spacing.lines least (omega (arith, count)) in
      let last = sizes-sum problem Rows demands ends h problem.rows (omega arith) in
      let at = ap (position problem.spacing.row_gap least) count in
      let rows : problem.rows - 1 + 1 ≡ problem.rows = omega arith in
      let counted = rw rows at (gaps_more problem.spacing.row_gap (problem.rows - 1)) in
      omega (arith, whole, last, at, counted)

  pub least_total-some : 0 < problem.rows → IsLeastTotal problem.spacing.row_gap problem.spacing.lines
      (GiveDemands problem Rows demands)
      (get_or ends problem.rows 0 + problem.spacing.row_gap * (problem.rows - 1) + problem.spacing.lines)
  least_total-some some =
      let least = sizes problem Rows demands ends h in
      let count = rises-length (λ k. get_or ends k 0) problem.rows in
      record {
        attained = (least, sizes-give problem Rows demands ends h, total-is some);
        never_less = λ other give.
            let less = total-le problem.spacing.row_gap problem.spacing.lines least other (count ∙ sym give.count)
            ((sizes-least problem Rows demands ends h).earliest other give (length least) (omega arith)) in
            omega (arith, less, total-is some);
      }
