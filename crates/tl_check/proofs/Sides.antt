-- What a bound says, by its side.
use Rattle.std.proofs.Common.{◌≡◌, ℕ, ◌+◌, ◌<◌, ◌≤◌, ℤ, pos, neg_ℤ, ◌-ℤ◌, ◌≤ℤ◌, Bool, IsTrue, ◌↔◌, List, length, sym, subst}
use Rattle.tl_base.specs.declared.limits.TheConstants.{MAX_PAGE_WIDTH}
use Rattle.tl_diff.specs.Bounds.{Bounds}
use Rattle.tl_diff.specs.Bounds as follows
use Rattle.tl_diff.specs.Marks.{MarkedBounds}
use Rattle.tl_problem.specs.Problem.{ProblemModel}
use Rattle.tl_problem.specs.Spans.{spans_of}
use Rattle.tl_problem.specs.Zones.{span_at, span_width}
use Rattle.tl_problem.specs.Works.{AreAllowed}
use Rattle.tl_cert.specs.declared.log.Bound.{Bound}
use Rattle.tl_cert.specs.declared.log.Side.{Side}
use Rattle.tl_cert.specs.declared.log.Side.TheVariants.{Most, Least}
use Rattle.tl_cert.specs.Nogoods.{IsOnSide, IsPast, Meets, Breaks}
use Rattle.tl_cert.specs.Implied.{Implied}
use Rattle.tl_check.specs.Matrices.{IsMatrixOf}
use Rattle.tl_check.specs.inner.Matrices.{Restricts}
use Rattle.tl_check.proofs.Rooms.{near-to, near-from, apart-to, apart-from, past-to, past-from, below-to, below-from}
use Rattle.tl_check.proofs.Rooms.{room-few, most-implied, implied-most, least-implied, implied-least}
use Rattle.tl_check.proofs.Leaving.{Restricts-same}

module _ (problem : ProblemModel) (bound : Bound) (inside : bound.span < length (spans_of problem)) (cut : ℕ)
    (same : bound.width ≤ MAX_PAGE_WIDTH → cut ≡ bound.width) (past : MAX_PAGE_WIDTH < bound.width →
    cut ≡ MAX_PAGE_WIDTH + 1) where
  abbrev gap : ℕ
  gap = problem.spacing.gap

  abbrev room_of : List ℕ → ℕ
  room_of widths = span_width problem widths bound.span

  on_side : (side : Side) → bound.side ≡ side → (widths : List ℕ) → IsOnSide side bound.width (room_of widths) →
      Meets problem widths bound
  on_side side is widths on = subst (λ t. IsOnSide t bound.width (room_of widths)) (sym is) on

  side_on : (side : Side) → bound.side ≡ side → (widths : List ℕ) → Meets problem widths bound →
      IsOnSide side bound.width (room_of widths)
  side_on side is widths on = subst (λ t. IsOnSide t bound.width (room_of widths)) is on

  past_side : (side : Side) → bound.side ≡ side → (widths : List ℕ) → IsPast side bound.width (room_of widths) →
      Breaks problem widths bound
  past_side side is widths on = subst (λ t. IsPast t bound.width (room_of widths)) (sym is) on

  side_past : (side : Side) → bound.side ≡ side → (widths : List ℕ) → Breaks problem widths bound →
      IsPast side bound.width (room_of widths)
  side_past side is widths on = subst (λ t. IsPast t bound.width (room_of widths)) is on

  module _ (bounds : Bounds) (keeps : IsMatrixOf problem bounds) where
    few : (widths : List ℕ) → AreAllowed problem bounds widths → room_of widths ≤ MAX_PAGE_WIDTH
    few widths left = room-few problem bounds keeps bound.span inside widths left

    pub decided-most : bound.side ≡ Most → (m : ℤ) → m ≡ pos (cut + gap) → (r : Bool) →
        (IsTrue r ↔ follows.Implies bounds (span_at problem bound.span).left (span_at problem bound.span).right m) →
        (IsTrue r ↔ Implied problem (AreAllowed problem bounds) bound)
    decided-most side m is r near = (
      λ yes widths left. on_side Most side widths (near-to (room_of widths) gap bound.width cut (few widths left) same past m is
          (most-implied problem bounds keeps bound.span inside m (near.0 yes) widths left)),
      λ all. near.1 (implied-most problem bounds keeps bound.span inside m
          (λ widths left. near-from (room_of widths) gap bound.width cut (few widths left)
          same past m is (side_on Most side widths (all widths left)))),
    )

    pub decided-least : bound.side ≡ Least → (m n : ℤ) → m ≡ pos (cut + gap) → n ≡ neg_ℤ m → (r : Bool) →
        (IsTrue r ↔ follows.Implies bounds (span_at problem bound.span).right (span_at problem bound.span).left n) →
        (IsTrue r ↔ Implied problem (AreAllowed problem bounds) bound)
    decided-least side m n is neg r near = (
      λ yes widths left. on_side Least side widths (apart-to (room_of widths) gap bound.width cut (few widths left) same past m is
          (least-implied problem bounds keeps bound.span inside m n neg (near.0 yes) widths left)),
      λ all. near.1 (implied-least problem bounds keeps bound.span inside m n neg
          (λ widths left. apart-from (room_of widths) gap bound.width cut
          (few widths left) same past m is (side_on Least side widths (all widths left)))),
    )

  module _ (old new : MarkedBounds) (keeps : IsMatrixOf problem old.bounds) (m : ℤ) where
    few_left : (widths : List ℕ) → AreAllowed problem old.bounds widths → room_of widths ≤ MAX_PAGE_WIDTH
    few_left widths left = room-few problem old.bounds keeps bound.span inside widths left

    abbrev AtMost : List ℕ → Type 0
    AtMost widths = pos (room_of widths + gap) ≤ℤ m

    abbrev AtLeast : List ℕ → Type 0
    AtLeast widths = m ≤ℤ pos (room_of widths + gap)

    pub met-most : bound.side ≡ Most → m ≡ pos (cut + gap) → Restricts problem old new AtMost →
        Restricts problem old new (λ widths. Meets problem widths bound)
    met-most side is h = Restricts-same problem old new AtMost (λ widths. Meets problem widths bound)
        (λ widths left fact. on_side Most side widths (near-to (room_of widths) gap bound.width cut (few_left widths left)
        same past m is fact))
        (λ widths left meets. near-from (room_of widths) gap bound.width cut (few_left widths left) same past m is
        (side_on Most side widths meets)) h

    pub met-least : bound.side ≡ Least → m ≡ pos (cut + gap) → Restricts problem old new AtLeast
        → Restricts problem old new (λ widths. Meets problem widths bound)
    met-least side is h = Restricts-same problem old new AtLeast (λ widths. Meets problem widths bound)
        (λ widths left fact. on_side Least side widths (apart-to (room_of widths) gap bound.width cut (few_left widths left)
        same past m is fact))
        (λ widths left meets. apart-from (room_of widths) gap bound.width cut (few_left widths left) same past m is
        (side_on Least side widths meets)) h

    pub broken-most : bound.side ≡ Most → m ≡ pos (cut + gap + 1) → Restricts problem old new AtLeast
        → Restricts problem old new (λ widths. Breaks problem widths bound)
    broken-most side is h = Restricts-same problem old new AtLeast (λ widths. Breaks problem widths bound)
        (λ widths left fact. past_side Most side widths (past-to (room_of widths) gap bound.width cut (few_left widths left)
        same past m is fact))
        (λ widths left breaks. past-from (room_of widths) gap bound.width cut (few_left widths left) same past m is
        (side_past Most side widths breaks)) h

    pub broken-least : bound.side ≡ Least → m ≡ pos (cut + gap) -ℤ pos 1 → Restricts problem old new AtMost →
        Restricts problem old new (λ widths. Breaks problem widths bound)
    broken-least side is h = Restricts-same problem old new AtMost (λ widths. Breaks problem widths bound)
        (λ widths left fact. past_side Least side widths (below-to (room_of widths) gap bound.width cut (few_left widths left)
        same past m is fact))
        (λ widths left breaks. below-from (room_of widths) gap bound.width cut (few_left widths left) same past m is
        (side_past Least side widths breaks)) h
