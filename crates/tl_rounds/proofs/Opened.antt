-- A book before any cut.
use Rattle.std.proofs.Common.{◌≡◌, ◌≢◌, [], ◌∷◌, inl, sym, subst, arith}
use Rattle.std.specs.List.{Contains}
use Rattle.std.proofs.lemmas.List.Elements.{All-from_recursion, All-nil}
use Rattle.tl_base.proofs.Members.{AllPairs-cons, AllPairs-none, Contains-first}
use Rattle.tl_problem.specs.declared.placed.Placed.{Placed}
use Rattle.tl_problem.specs.Problem.{ProblemModel}
use Rattle.tl_problem.specs.Placements.{IsOpening, IsPlacementIn}
use Rattle.tl_problem.specs.Tight.{IsTight}
use Rattle.tl_problem.specs.Zones.{whole_zone, InZone}
use Rattle.tl_problem.specs.Sound.{IsSound}
use Rattle.tl_problem.proofs.SetLaws.{whole-opening}
use Rattle.tl_cert.specs.declared.trace.CutAt.{CutAt}
use Rattle.tl_cert.specs.Traces.{Stands, zone_at}
use Rattle.tl_solve.specs.Arenas.{HasBoundBelow}
use Rattle.tl_rounds.specs.Book.{IsCovering, IsUpToOpening}

-- only zone 0 stands where no cut was made
stands-none : Stands [] 0
stands-none = record { there = omega arith; not_cut = All-nil (λ (cut : CutAt). cut.zone ≢ 0) }

pub opened : (problem : ProblemModel) → IsSound problem → (opening best : Placed) → IsOpening problem opening →
    IsTight problem best → IsUpToOpening problem best.height → IsCovering problem [] (0 ∷ []) best
opened problem sound opening best is tight low = record {
  trace_of = λ i d within. absurd (omega (arith, within));
  left = record {
    standing = All-from_recursion (Stands []) (0 ∷ []) (stands-none, tt);
    different = AllPairs-cons (λ one other. one ≢ other) 0 [] (All-nil (λ other. 0 ≢ other))
        (AllPairs-none (λ one other. one ≢ other));
  };
  tight = tight;
  keen = λ z placed there placement.
      let first : z ≡ 0 = omega (arith, there) in
      low placed (whole-opening problem sound placed
      (subst (λ n. IsPlacementIn problem (InZone problem (zone_at (whole_zone problem) [] n)) placed) first placement));
  cut_zones = (opening, is, All-nil (λ (cut : CutAt). HasBoundBelow problem [] cut.zone opening.height));
  closed = λ z stands.
      let first : z ≡ 0 = omega (arith, stands.there) in
      inl (subst (Contains (0 ∷ [])) (sym first) (Contains-first 0 []));
}
