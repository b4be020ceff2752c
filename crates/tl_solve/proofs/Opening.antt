-- A set of widths has one placement at its least positions.
use Rattle.std.proofs.Common.{◌≡◌, ℕ, List, sym, ◌∙◌}
use Rattle.tl_problem.specs.declared.placed.Placed.{Placed}
use Rattle.tl_problem.specs.Problem.{ProblemModel}
use Rattle.tl_problem.specs.Placements.{IsPlacementIn}
use Rattle.tl_problem.proofs.TightLaws.{least-unique, placement-unique}

module _ (problem : ProblemModel) where
  pub placement_in-unique : (Among : List ℕ → Type 0) (first second : Placed) → IsPlacementIn problem Among first →
      IsPlacementIn problem Among second →
      first ≡ second
  placement_in-unique Among first second one other =
      placement-unique problem first second
      (least-unique problem.spacing.gap Among first.widths second.widths
      (one.placement.page.columns ∙ sym other.placement.page.columns) one.columns other.columns)
      one.placement other.placement
