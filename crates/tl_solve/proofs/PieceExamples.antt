-- Pieces on the drawn trace of three cuts, here of any zone:
--
--          0               cut 0: zone 0 into 1 and 2
--        /   \             cut 1: zone 1 into 3 and 4
--       1     2            cut 2: zone 3 into 5 and 6
--      / \
--     3   4
--    / \
--   5   6
use Rattle.std.proofs.Common.{◌≡◌, ◌≢◌, ℕ, ◌<◌, ◌≤◌, List, [], ◌∷◌, inl, inr, get_or, Option, None, Some, refl}
use Rattle.std.proofs.Common.{sym, subst, arith}
use Rattle.std.specs.List.{AllByRecursion}
use Rattle.std.proofs.lemmas.List.Elements.{All-nil, All-from_recursion}
use Rattle.tl_problem.specs.declared.placed.Placed.{Placed}
use Rattle.tl_problem.specs.declared.zone.Range.{Range}
use Rattle.tl_problem.specs.Problem.{ProblemModel}
use Rattle.tl_problem.specs.Zones.{InZone}
use Rattle.tl_problem.specs.Bounds.{IsBound}
use Rattle.tl_problem.specs.Placements.{IsPlacementIn}
use Rattle.tl_problem.proofs.BoundLaws.{bound-unique}
use Rattle.tl_cert.specs.declared.trace.CutAt.{CutAt}
use Rattle.tl_cert.specs.Traces.{zone_at, IsZoneOf, Stands}
use Rattle.tl_solve.specs.Piece.{HasBoundIn, AreLeft, IsPieceOf}

abbrev deep : List CutAt
deep = record { zone = 0; span = 0; class = 0 } ∷ record { zone = 1; span = 0; class = 0 } ∷ record {
  zone = 3;
  span =
      0;
  class = 0;
} ∷ []

-- zones 4 and 2 may be left
four_two : AreLeft deep (4 ∷ 2 ∷ [])
four_two = record {
  standing = All-from_recursion (Stands deep) (4 ∷ 2 ∷ []) (
    stands 4 (omega arith) (omega arith, (omega arith, (omega arith, tt))),
    (stands 2 (omega arith) (omega arith, (omega arith, (omega arith, tt))), tt),
  );
  different = λ i j d less within same. let first : i ≡ 0 = omega (arith, less, within) in
      let second : j ≡ 1 = omega (arith, less, within) in absurd (apart i j d first second same);
} where
  stands : (z : ℕ) → z < 7 → AllByRecursion (λ cut. cut.zone ≢ z) deep → Stands deep z
  stands z there not_cut = record { there = there; not_cut = All-from_recursion (λ cut. cut.zone ≢ z) deep not_cut }

  apart : (i j d : ℕ) → i ≡ 0 → j ≡ 1 → get_or (4 ∷ 2 ∷ []) i d ≢ get_or (4 ∷ 2 ∷ []) j d
  apart i j d first second = subst (λ n. get_or (4 ∷ 2 ∷ []) n d ≢ get_or (4 ∷ 2 ∷ []) j d) (sym first)
      (subst (λ n. 4 ≢ get_or (4 ∷ 2 ∷ []) n d) (sym second) (λ same. omega (arith, same)))

-- zone 1, which is cut, may not
one_cut : AreLeft deep (1 ∷ []) → ⊥
one_cut left = (left.standing 0 0 (omega arith)).not_cut 1 (record { zone = 0; span = 0; class = 0 }) (omega arith) refl

-- and no zone may be left twice
four_twice : AreLeft deep (4 ∷ 4 ∷ []) → ⊥
four_twice left = left.different 0 1 0 (omega arith) (omega arith) refl

-- ---- one zone

module _ (problem : ProblemModel) (zone : List Range) (bound : ℕ) (is : IsBound problem (InZone problem zone) bound) where
  -- where the bound of the zone is the given height, and no placement in it is lower, nothing is found and nothing left
  pub closed_at_once : (quota : ℕ) → ((placed : Placed) → IsPlacementIn problem (InZone problem zone) placed →
      bound ≤ placed.height) → IsPieceOf problem zone bound quota None [] []
  closed_at_once quota none_lower = record {
    trace_of = λ i d within. absurd (omega (arith, within));
    few = omega arith;
    cut_zones = All-nil (λ cut. HasBoundIn problem zone [] cut.zone bound);
    found = tt;
    keen = λ z placed there placement.
        none_lower placed (subst (λ n. IsPlacementIn problem (InZone problem (zone_at zone [] n)) placed) (first z there) placement);
    left = record {
      standing = All-nil (Stands []);
      different = λ i j d less within. absurd (omega (arith, less, within));
    };
    closed = λ z stands. inr (inr (inl (
      bound,
      subst (λ n. IsBound problem (InZone problem (zone_at zone [] n)) bound) (sym (first z stands.there)) is,
      omega arith,
    )));
    spent = λ some. absurd (some refl);
  } where
    first : (z : ℕ) → IsZoneOf [] z → z ≡ 0
    first z there = omega (arith, there)

  -- but no zone is left before a cut was made, and none of that bound is cut
  pub not_left_at_once : (given quota : ℕ) (best : Option Placed) → 1 ≤ quota →
      IsPieceOf problem zone given quota best [] (0 ∷ []) → ⊥
  not_left_at_once given quota best some piece = omega (arith, some, piece.spent (λ same. cc))

  pub not_cut_there : (quota : ℕ) (best : Option Placed) (lefts : List ℕ) →
      IsPieceOf problem zone bound quota best (record { zone = 0; span = 0; class = 0 } ∷ []) lefts → ⊥
  not_cut_there quota best lefts piece =
      let cut : CutAt = record { zone = 0; span = 0; class = 0 } in
      let below = piece.cut_zones 0 cut (omega arith) in
      let same = bound-unique problem (InZone problem zone) bound below.0 is below.1 in
      omega (arith, below.2, same)

-- what is found undercuts the given height
not_equal : (problem : ProblemModel) (zone : List Range) (quota : ℕ) (placed : Placed) (trace : List CutAt) (lefts : List ℕ) →
    IsPieceOf problem zone placed.height quota (Some placed) trace lefts → ⊥
not_equal problem zone quota placed trace lefts piece = omega (arith, piece.found.1)
