-- What closes a zone, in its widths.
use Rattle.std.proofs.Common.{ℕ, List, [], get_or, map, Option, Some, None, subst, arith}
use Rattle.std.specs.Prelude.{MatchOption}
use Rattle.std.specs.List.{All}
use Rattle.std.proofs.lemmas.List.{get_or-map, length-map}
use Rattle.std.proofs.lemmas.List.Elements.{All-nil}
use Rattle.tl_diff.specs.Bounds.{Bounds}
use Rattle.tl_problem.specs.declared.zone.Range.{Range}
use Rattle.tl_problem.specs.Problem.{ProblemModel}
use Rattle.tl_problem.specs.Works.{AreAllowed}
use Rattle.tl_problem.specs.Zones.{IsZone, InZone}
use Rattle.tl_cert.specs.declared.log.Bound.{Bound}
use Rattle.tl_cert.specs.Nogoods.{Breaks, zone_bounds}
use Rattle.tl_cert.specs.Implied.{Implied}
use Rattle.tl_cert.proofs.ZoneBounds.{zone-meets, zone-from_meets}
use Rattle.tl_check.specs.Matrices.{Describes}
use Rattle.tl_store.specs.Stores.{NoneCloses, IsFirstClosing}

-- what holds of all images holds of the images of all
pub all-from_map : {X Y : Type 0} (P : Y → Type 0) (f : X → Y) (xs : List X) → All P (map f xs) → All (λ x. P (f x)) xs
all-from_map P f xs all i d within = subst P (get_or-map f xs i d (f d) within)
    (all i (f d) (omega (arith, within, length-map xs f)))

module _ (problem : ProblemModel) (A B : List ℕ → Type 0) (to : (widths : List ℕ) → A widths → B widths)
    (from : (widths : List ℕ) → B widths → A widths) (nogoods : List (List Bound)) where
  less-implied : (bounds : List Bound) → All (Implied problem A) bounds → All (Implied problem B) bounds
  less-implied bounds all i d within widths inside = all i d within widths (from widths inside)

  more-implied : (bounds : List Bound) → All (Implied problem B) bounds → All (Implied problem A) bounds
  more-implied bounds all i d within widths inside = all i d within widths (to widths inside)

  pub closes-same : (found : Option ℕ) → MatchOption found (NoneCloses problem A nogoods) (IsFirstClosing problem A nogoods) →
      MatchOption found (NoneCloses problem B nogoods) (IsFirstClosing problem B nogoods)
  closes-same None none = λ k within all. none k within (more-implied (get_or nogoods k []) all)
  closes-same (Some k) is = record {
    there = is.there;
    implied = less-implied (get_or nogoods k []) is.implied;
    before = λ j less all. is.before j less (more-implied (get_or nogoods j []) all);
  }

-- a matrix that keeps the ranges of a zone leaves the widths in it
module _ (problem : ProblemModel) (zone : List Range) (is : IsZone problem zone) (bounds : Bounds)
    (describes : Describes problem (zone_bounds problem zone) [] bounds) where
  pub allowed-inside : (widths : List ℕ) → AreAllowed problem bounds widths → InZone problem zone widths
  allowed-inside widths left =
      let inside = describes.to widths left in
      zone-from_meets problem describes.keeps.sound zone is widths inside.page inside.meets

  pub inside-allowed : (widths : List ℕ) → InZone problem zone widths → AreAllowed problem bounds widths
  inside-allowed widths inside = describes.from widths (record {
    page = inside.page;
    meets = zone-meets problem describes.keeps.sound zone is widths inside;
    breaks = All-nil (Breaks problem widths);
  })
