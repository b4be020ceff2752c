-- The placement is of these widths, and what is kept is no higher.
use Rattle.std.proofs.Common.{subst, ◌∙◌}
use Rattle.tl_problem.specs.Placements.{HasNoLower}
use Rattle.tl_solve.proofs.ArenaLaws.{no_lower-placement}
use Rattle.tl_solve.proofs.looks.place.Goals as goal

pub returns-in_ok-take_lower-clause-looked : goal.returns-in_ok-take_lower-clause-looked
returns-in_ok-take_lower-clause-looked c =
    let p = c.args.problem.now in
    let placed = c.in-Some.placed in
    let is = rw c.in-Some.is at c.in_ok-found.ensures.lower in
    subst (λ widths. HasNoLower p widths c.take_lower.new.best.height) (is.1 ∙ c.as_slice.ensures)
    (no_lower-placement p placed c.take_lower.new.best.height is.0 c.in_ok-take_lower.ensures.taken)
