-- Rooms of spans against the differences of places: what a bound says of a matrix.
use Rattle.std.proofs.Common.{◌≡◌, ℕ, ◌+◌, ◌<◌, ◌≤◌, ℤ, pos, neg_ℤ, ◌-ℤ◌, ◌≤ℤ◌, List, inl, inr, length, arith}
use Rattle.std.proofs.lemmas.Int.{ints}
use Rattle.std.proofs.lemmas.Bool.{cases_lt}
use Rattle.std.specs.Prelude.{Option, Some, None, MatchOption, IsSomeAnd}
use Rattle.tl_base.specs.declared.limits.TheConstants.{MAX_PAGE_WIDTH}
use Rattle.tl_diff.specs.Bounds.{Bounds, Implies, IsGreatest, HasNoGreatest}
use Rattle.tl_diff.proofs.BoundLaws.{Implied-from, Implied-le, Implied-none}
use Rattle.tl_problem.specs.Problem.{ProblemModel}
use Rattle.tl_problem.specs.Spans.{spans_of}
use Rattle.tl_problem.specs.Zones.{span_at, span_width}
use Rattle.tl_problem.specs.Works.{places, AreAllowed, widths_of}
use Rattle.tl_base.proofs.SizeLaws.{room-position}
use Rattle.tl_problem.proofs.ZoneLaws.{span-within}
use Rattle.tl_problem.proofs.ConstraintLemmas.{room-small}
use Rattle.tl_problem.proofs.WorkLemmas.{left-from, left-room}
use Rattle.tl_check.specs.Matrices.{IsMatrixOf}

-- what is implied is decided by the tightest bound
pub near-decided : (bounds : Bounds) (a b : ℕ) (most : ℤ) (o : Option ℤ) →
    MatchOption o (HasNoGreatest bounds a b) (IsGreatest bounds a b) →
    (IsSomeAnd o (λ m. m ≤ℤ most) → Implies bounds a b most) × (Implies bounds a b most → IsSomeAnd o (λ m. m ≤ℤ most))
near-decided bounds a b most None is = (λ never. absurd never, λ implied. absurd (Implied-none bounds a b most is implied))
near-decided bounds a b most (Some m) is = (
  λ less. Implied-from bounds a b m most is less,
  λ implied. Implied-le bounds a b m most is implied,
)

-- a width that is cut off past the page bounds the same rooms as the whole one
module _ (room gap w cut : ℕ) (few : room ≤ MAX_PAGE_WIDTH) (same : w ≤ MAX_PAGE_WIDTH → cut ≡ w)
    (past : MAX_PAGE_WIDTH < w → cut ≡ MAX_PAGE_WIDTH + 1) (m : ℤ) where
  pub near-to : m ≡ pos (cut + gap) → pos (room + gap) ≤ℤ m → room ≤ w
  near-to is h = elim (cases_lt MAX_PAGE_WIDTH w) [
    | inl above ↦ omega (arith, few, above)
    | inr within ↦ omega
        (arith, ints, is, h, same within)
  ]

  pub near-from : m ≡ pos (cut + gap) → room ≤ w → pos (room + gap) ≤ℤ m
  near-from is h = elim (cases_lt MAX_PAGE_WIDTH w) [
    | inl above ↦ omega (arith, ints, is, few, past above)
    | inr within ↦ omega (arith, ints, is, h, same within)
  ]

  pub apart-to : m ≡ pos (cut + gap) → m ≤ℤ pos (room + gap) → w ≤ room
  apart-to is h = elim (cases_lt MAX_PAGE_WIDTH w) [
    | inl above ↦ absurd (omega (arith, ints, is, h, few, past above))
    | inr within ↦ omega
        (arith, ints, is, h, same within)
  ]

  pub apart-from : m ≡ pos (cut + gap) → w ≤ room → m ≤ℤ pos (room + gap)
  apart-from is h = elim (cases_lt MAX_PAGE_WIDTH w) [
    | inl above ↦ absurd (omega (arith, few, above, h))
    | inr within ↦ omega (arith, ints, is, h, same within)
  ]

  pub past-to : m ≡ pos (cut + gap + 1) → m ≤ℤ pos (room + gap) → w + 1 ≤ room
  past-to is h = elim (cases_lt MAX_PAGE_WIDTH w) [
    | inl above ↦ absurd (omega (arith, ints, is, h, few, past above))
    | inr within ↦ omega
        (arith, ints, is, h, same within)
  ]

  pub past-from : m ≡ pos (cut + gap + 1) → w + 1 ≤ room → m ≤ℤ pos (room + gap)
  past-from is h = elim (cases_lt MAX_PAGE_WIDTH w) [
    | inl above ↦ absurd (omega (arith, few, above, h))
    | inr within ↦ omega
        (arith, ints, is, h, same within)
  ]

  pub below-to : m ≡ pos (cut + gap) -ℤ pos 1 → pos (room + gap) ≤ℤ m → room + 1 ≤ w
  below-to is h = elim (cases_lt MAX_PAGE_WIDTH w) [
    | inl above ↦ omega (arith, few, above)
    | inr within ↦ omega
        (arith, ints, is, h, same within)
  ]

  pub below-from : m ≡ pos (cut + gap) -ℤ pos 1 → room + 1 ≤ w → pos (room + gap) ≤ℤ m
  below-from is h = elim (cases_lt MAX_PAGE_WIDTH w) [
    | inl above ↦ omega (arith, ints, is, few, past above)
    | inr within ↦ omega (arith, ints, is, h, same within)
  ]

module _ (problem : ProblemModel) (bounds : Bounds) (keeps : IsMatrixOf problem bounds) (s : ℕ)
    (inside : s < length (spans_of problem)) where
  abbrev left_of : ℕ
  left_of = (span_at problem s).left

  abbrev right_of : ℕ
  right_of = (span_at problem s).right

  -- no room is greater than the page
  pub room-few : (widths : List ℕ) → AreAllowed problem bounds widths → span_width problem widths s ≤ MAX_PAGE_WIDTH
  room-few widths left =
      let span = span-within problem keeps.sound s inside in
      room-small problem keeps.sound widths (keeps.page.page widths left) left_of right_of span.0 span.1

  -- what the constraints imply of the places of the span's edges they imply of its room, and back
  pub most-implied : (m : ℤ) → Implies bounds left_of right_of m → (widths : List ℕ) → AreAllowed problem bounds widths →
      pos (span_width problem widths s + problem.spacing.gap) ≤ℤ m
  most-implied m all widths left =
      let step = room-position problem.spacing.gap widths left_of right_of (span-within problem keeps.sound s inside).0 in
      let apart = all (places problem widths) left.satisfies in
      omega (arith, ints, step, apart)

  pub implied-most : (m : ℤ) → ((widths : List ℕ) → AreAllowed problem bounds widths →
      pos (span_width problem widths s + problem.spacing.gap) ≤ℤ m) →
      Implies bounds left_of right_of m
  implied-most m all x meets =
      let span = span-within problem keeps.sound s inside in
      let at = left-room problem bounds keeps.page left_of right_of span.0 span.1 x meets in
      let small = all (widths_of x problem.spacing.gap problem.cols) (left-from problem bounds keeps.page x meets) in
      omega (arith, ints, at, small)

  pub least-implied : (m n : ℤ) → n ≡ neg_ℤ m → Implies bounds right_of left_of n → (widths : List ℕ) →
      AreAllowed problem bounds widths →
      m ≤ℤ pos (span_width problem widths s + problem.spacing.gap)
  least-implied m n is all widths left =
      let step = room-position problem.spacing.gap widths left_of right_of (span-within problem keeps.sound s inside).0 in
      let apart = all (places problem widths) left.satisfies in
      omega (arith, ints, step, apart, is)

  pub implied-least : (m n : ℤ) → n ≡ neg_ℤ m →
      ((widths : List ℕ) → AreAllowed problem bounds widths → m ≤ℤ pos (span_width problem widths s + problem.spacing.gap)) →
      Implies bounds right_of left_of n
  implied-least m n is all x meets =
      let span = span-within problem keeps.sound s inside in
      let at = left-room problem bounds keeps.page left_of right_of span.0 span.1 x meets in
      let small = all (widths_of x problem.spacing.gap problem.cols) (left-from problem bounds keeps.page x meets) in
      omega (arith, ints, at, small, is)
