-- The area bound from the least areas of the cells and the greatest place where the columns end.
use Rattle.std.proofs.Common.{◌≡◌, ℕ, ◌+◌, ◌-◌, ◌*◌, ◌/◌, ◌%◌, ◌<◌, ◌≤◌, suc, min, ℤ, pos, List, [], ◌∷◌, ◌++◌, inl, inr, length}
use Rattle.std.proofs.Common.{get_or}
use Rattle.std.proofs.Common.{Some, refl, sym, ap, ◌∙◌, subst, arith}
use Rattle.std.specs.List.{sum_by}
use Rattle.std.specs.Int.{div_ceil}
use Rattle.std.proofs.lemmas.Int.{ints}
use Rattle.std.proofs.lemmas.Bool.{cases_lt}
use Rattle.std.proofs.lemmas.Nat.{div-add-mod', mod_below}
use Rattle.std.proofs.lemmas.List.{length_push, get_or_default}
use Rattle.std.proofs.lemmas.List.Sums.{sum_by-cons, sum_by_push, get_or-le-sum_by}
use Rattle.std.proofs.Math.Nat.{mul-le-mul, mul-le-mul_right}
use Rattle.tl_base.specs.declared.limits.TheConstants.{MAX_HEIGHT, MAX_PAGE_WIDTH}
use Rattle.tl_base.specs.Steps.{height_at, first_height}
use Rattle.tl_diff.specs.Bounds.{Bounds, IsGreatest, HasNoGreatest}
use Rattle.tl_problem.specs.declared.cell.Cell.{Cell}
use Rattle.tl_base.specs.Sizes.{position}
use Rattle.tl_problem.specs.Problem.{ProblemModel, cell_width}
use Rattle.tl_problem.specs.Layouts.{WithinPage}
use Rattle.tl_problem.specs.Sound.{IsSound, IsSoundCell}
use Rattle.tl_problem.specs.Bounds.{IsGreatestRoom}
use Rattle.tl_problem.specs.Areas.{IsLeastArea, IsGreatestEnd, IsRoundedUp, IsAreaBound}
use Rattle.tl_problem.specs.Works.{places, AreAllowed, KeepsPage, widths_of}
use Rattle.tl_problem.specs.inner.Demands.{cell_at, no_cell}
use Rattle.tl_problem.specs.inner.Needs.{IsLeastRoom}
use Rattle.tl_problem.specs.inner.Least.{area_with, IsLeastStep, HaveAreas}
use Rattle.tl_problem.proofs.Heights.{height-from_first, IsLowAt-from}
use Rattle.tl_base.proofs.SizeLaws.{total-position, room-position, position-mono}
use Rattle.tl_base.proofs.Zips.{AllZip-from_places}
use Rattle.tl_problem.proofs.NeedLemmas.{upto-push, all-most, sum-le, height-le, low-le}
use Rattle.tl_problem.proofs.WorkLemmas.{left-from, left-position}
use Rattle.tl_problem.proofs.AreaSteps.{least-below, least-attained}

-- ---- the least area of one cell

module _ (problem : ProblemModel) (Among : List ℕ → Type 0) (cell : Cell) (low high first least : ℕ)
    (sound : IsSoundCell problem cell)
    (narrow : IsLeastRoom problem Among cell.left cell.right low) (wide : IsGreatestRoom problem Among cell.left cell.right high)
    (is : height_at cell.low low ≡ Some first)
    (h : IsLeastStep problem.spacing.gap problem.spacing.row_gap cell.low (length cell.low) low high
    (area_with problem.spacing.gap problem.spacing.row_gap low first) least) where
  low-high : low ≤ high
  low-high = omega (arith, narrow.attained.2, wide.never_more narrow.attained.0 narrow.attained.1)

  pub IsLeastArea-found : IsLeastArea problem Among cell least
  IsLeastArea-found = record {
    attained =
        let at = least-attained problem.spacing.gap problem.spacing.row_gap
        cell.low sound.steps.0 low high first least is h low-high in (
          at.0,
          at.1.0,
          record {
            no_more = (narrow.attained.0, narrow.attained.1, omega (arith, narrow.attained.2, at.1.1.0));
            no_less = (wide.attained.0, wide.attained.1, omega (arith, wide.attained.2, at.1.1.1.0));
          },
          at.1.1.1.1.0,
          at.1.1.1.1.1,
        );
    never_less = λ w k between here.
        least-below problem.spacing.gap problem.spacing.row_gap cell.low sound.steps.0 low high first least is h w k
        (omega (arith, narrow.never_less between.no_more.0 between.no_more.1, between.no_more.2))
        (omega (arith, wide.never_more between.no_less.0 between.no_less.1, between.no_less.2)) here;
  }

-- ---- the areas of all cells

pub HaveAreas-none : (problem : ProblemModel) (Among : List ℕ → Type 0) → HaveAreas problem Among 0 0
HaveAreas-none problem Among = record { areas = []; count = refl; each = λ k below. absurd (omega arith); sums = refl }

pub HaveAreas-more : (problem : ProblemModel) (Among : List ℕ → Type 0) (k total least : ℕ) → HaveAreas problem Among k total →
    IsLeastArea problem Among (cell_at problem.cells k) least → HaveAreas problem Among (k + 1) (total + least)
HaveAreas-more problem Among k total least h one = record {
  areas = h.areas ++ least ∷ [];
  count = omega (arith, length_push h.areas least, h.count);
  each = upto-push (λ j v. IsLeastArea problem Among (cell_at problem.cells j) v) h.areas least k h.count h.each one;
  sums = omega (arith, sum_by_push (λ x. x) h.areas least, h.sums);
}

-- ---- rounded up

upto : (a b : ℕ) → a ≤ b → a ≤ b
upto a b h = h

pub rounded-up : (n divisor : ℕ) → 0 < divisor → IsRoundedUp n divisor (div_ceil n divisor)
rounded-up n divisor some =
    let split = div-add-mod' n divisor in
    let rest = mod_below n divisor some in
    record {
      enough = elim (cases_lt 0 (n % divisor)) [
        | inr none ↦
            let exact : n / divisor + min 1 (n % divisor) ≡ n / divisor = omega arith in
            rw exact (omega (arith, split))
        | inl more ↦
            let up : n / divisor + min 1 (n % divisor) ≡ n / divisor + 1 = omega arith in
            let product : (n / divisor + 1) * divisor ≡ n / divisor * divisor + divisor = grind arith in
            rw up (omega (arith, split, rest, product))
      ];
      least = λ other enough. elim (cases_lt other (div_ceil n divisor)) [
        | inr le ↦ le
        | inl less ↦ elim (cases_lt 0 (n % divisor)) [
          | inr none ↦
              let below = mul-le-mul_right divisor (upto (other + 1) (n / divisor) (omega arith)) in
              let product : (other + 1) * divisor ≡ other * divisor + divisor = grind arith in
              absurd (omega (arith, split, below, product, enough, some))
          | inl more ↦
              let below = mul-le-mul_right divisor (upto other (n / divisor) (omega arith)) in
              absurd (omega (arith, split, below, enough, more))
        ]
      ];
    }

-- ---- the greatest end

module _ (problem : ProblemModel) (sound : IsSound problem) (bounds : Bounds) (keeps : KeepsPage problem bounds)
    (some : 0 < problem.cols) where
  end-small : (widths : List ℕ) → WithinPage problem widths →
      position problem.spacing.gap widths problem.cols ≤ MAX_PAGE_WIDTH + 2
  end-small widths page =
      let whole = total-position problem.spacing.gap problem.spacing.edges widths (omega (arith, page.columns)) in
      let at = ap (position problem.spacing.gap widths) page.columns in
      omega (arith, whole, at, page.page, sound.narrow, sound.spaced.near)

  pub end-some : HasNoGreatest bounds 0 problem.cols → ⊥
  end-some none =
      let more = none (pos (2 * MAX_PAGE_WIDTH)) in
      let widths = widths_of more.0 problem.spacing.gap problem.cols in
      let at = left-position problem bounds keeps more.0 more.1.0 problem.cols (omega arith) in
      let small = end-small widths (keeps.page widths (left-from problem bounds keeps more.0 more.1.0)) in
      omega (arith, ints, more.1.1, at, small)

  pub greatest-end : (most : ℤ) → IsGreatest bounds 0 problem.cols most →
      (end : ℕ) × ((most ≡ pos end) × (IsGreatestEnd problem (AreAllowed problem bounds) end ×
      ((0 < end) × (end ≤ MAX_PAGE_WIDTH + 2))))
  greatest-end most is =
      let x = is.reached.0 in
      let widths = widths_of x problem.spacing.gap problem.cols in
      let left = left-from problem bounds keeps x is.reached.1.0 in
      let at = left-position problem bounds keeps x is.reached.1.0 problem.cols (omega arith) in
      let end = position problem.spacing.gap widths problem.cols in
      let same : most ≡ pos end = omega (arith, ints, at, is.reached.1.1) in
      let one = position-mono problem.spacing.gap widths 1 problem.cols (omega arith) in
      let first : 1 ≤ position problem.spacing.gap widths 1 = omega (arith, sound.spaced.apart) in (
        end,
        (
          same,
          (
            record {
              attained = (widths, left, refl);
              never_more = λ other kept. let apart = is.implied (places problem other) kept.satisfies in
                  omega (arith, ints, apart, same);
            },
            (omega (arith, one, first), end-small widths (keeps.page widths left)),
          ),
        ),
      )

-- ---- the areas are small against the end

module _ (problem : ProblemModel) (sound : IsSound problem) (Among : List ℕ → Type 0) (page : (widths : List ℕ) → Among widths →
    WithinPage problem widths) (end : ℕ) (greatest : IsGreatestEnd problem Among end) where
  area-small : (k least : ℕ) → k < length problem.cells → IsLeastArea problem Among (cell_at problem.cells k) least →
      least ≤ end * (first_height (cell_at problem.cells k).high + 1)
  area-small k least within is =
      let cell = cell_at problem.cells k in
      let sound_cell = sound.cells k no_cell within in
      let widths = greatest.attained.0 in
      let among = greatest.attained.1 in
      let here = page widths among in
      let w = cell_width problem widths cell in
      let found = height-from_first cell.low sound_cell.steps.0.has_step w (here.cells k no_cell within) in
      let high = height-from_first cell.high sound_cell.steps.1.has_step w
      (omega (arith, sound_cell.same_least, here.cells k no_cell within)) in
      let low = low-le cell.low w found.0 high.0 found.1 (sound_cell.low_below high.0 w
      (IsLowAt-from cell.high high.0 w high.1)) in
      let most = height-le cell.high sound_cell.steps.1 w high.0 high.1 in
      let below = is.never_less w found.0 (record {
        no_more = (widths, among, omega arith);
        no_less =
            (widths, among, omega arith);
      }) found.1 in
      let place = room-position problem.spacing.gap widths cell.left cell.right sound_cell.columns.0 in
      let far = position-mono problem.spacing.gap widths cell.right problem.cols sound_cell.columns.1 in
      let wide : w + problem.spacing.gap ≤ end = omega (arith, place, far, greatest.attained.2) in
      let tall : found.0 + problem.spacing.row_gap ≤ first_height cell.high + 1 =
      omega (arith, low, most, sound.spaced.close) in
      omega (arith, below, mul-le-mul wide tall)

  scaled : (cells : List Cell) → sum_by (λ c. end * (first_height c.high + 1)) cells ≡ end *
      (sum_by (λ c. first_height c.high) cells + length cells)
  scaled [] = omega arith
  scaled (c ∷ cells) =
      let rest = scaled cells in
      let one = sum_by-cons (λ (x : Cell). end * (first_height x.high + 1)) c cells in
      let other = sum_by-cons (λ (x : Cell). first_height x.high) c cells in
      let product = spread end (first_height c.high) (sum_by (λ x. first_height x.high) cells) (length cells) in
      one ∙ omega (arith, rest, product) ∙ ap (λ s. end * (s + length (c ∷ cells))) (sym other) where
        spread : (e g s n : ℕ) → e * (g + 1) + e * (s + n) ≡ e * (g + s + suc n)
        spread e g s n = grind arith

  -- so few lines hold them
  pub areas-small : (total : ℕ) → HaveAreas problem Among (length problem.cells) total →
      total ≤ (MAX_HEIGHT + length problem.cells) * end
  areas-small total h =
      let each = sum-le (λ c. end * (first_height c.high + 1)) problem.cells h.areas h.count
      (λ k within. area-small k (get_or h.areas k 0) within (h.each k within)) in
      let most = mul-le-mul (upto end end (omega arith)) (upto
      (sum_by (λ c. first_height c.high) problem.cells + length problem.cells)
      (MAX_HEIGHT + length problem.cells) (omega (arith, sound.low_enough))) in
      let turned : end * (MAX_HEIGHT + length problem.cells) ≡ (MAX_HEIGHT + length problem.cells) * end = grind arith in
      omega (arith, each, scaled problem.cells, most, turned, h.sums)

  pub area-few : (k least : ℕ) → k < length problem.cells → end ≤ MAX_PAGE_WIDTH + 2 →
      IsLeastArea problem Among (cell_at problem.cells k) least →
      least ≤ (MAX_PAGE_WIDTH + 2) * (MAX_HEIGHT + 1)
  area-few k least within few is =
      let small = area-small k least within is in
      let cell = cell_at problem.cells k in
      let one = get_or-le-sum_by (λ (c : Cell). first_height c.high) problem.cells k no_cell within in
      let most = mul-le-mul few (upto (first_height cell.high + 1) (MAX_HEIGHT + 1) (omega (arith, one, sound.low_enough))) in
      omega (arith, small, most)

  -- the areas of the first cells
  pub areas-few : (upto total : ℕ) → upto ≤ length problem.cells → end ≤ MAX_PAGE_WIDTH + 2 → HaveAreas problem Among upto total →
      total ≤ upto * ((MAX_PAGE_WIDTH + 2) * (MAX_HEIGHT + 1))
  areas-few upto total within few h =
      let all = all-most (λ x. x) ((MAX_PAGE_WIDTH + 2) * (MAX_HEIGHT + 1)) h.areas
      (λ k below. area-few k (get_or h.areas k 0) (omega (arith, h.count)) few
      (h.each k (omega (arith, h.count)))) in
      omega (arith, all, h.count, h.sums)

  pub IsAreaBound-found : (total : ℕ) → 0 < problem.cols → 0 < end → HaveAreas problem Among (length problem.cells) total →
      IsAreaBound problem Among (problem.spacing.lines + div_ceil total end - problem.spacing.row_gap)
  IsAreaBound-found total some_columns some h = record {
    some = (greatest.attained.0, greatest.attained.1);
    no_column = λ none. absurd (omega (arith, none));
    columns = λ columns. (
      div_ceil total end,
      record {
        areas = h.areas;
        end = end;
        least = AllZip-from_places (IsLeastArea problem Among) problem.cells h.areas (sym h.count)
            (λ k d e within.
            subst (λ c. IsLeastArea problem Among c (get_or h.areas k e)) (get_or_default problem.cells k no_cell d within)
            (subst (IsLeastArea problem Among (cell_at problem.cells k))
            (get_or_default h.areas k 0 e (omega (arith, within, h.count))) (h.each k within)));
        greatest = greatest;
        rounded = subst (λ n. IsRoundedUp n end (div_ceil total end)) (sym h.sums) (rounded-up total end some);
      },
      refl,
    );
  }
