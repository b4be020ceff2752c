-- None exactly where no widths are left.
use Rattle.tl_problem.specs.Works.{places}
use Rattle.tl_problem.proofs.problem.Problem.held_area.Goals as goal

pub returns-then-not-holds : goal.returns-then-not-holds
returns-then-not-holds c = λ widths left.
    let yes = c.holds.ensures.1 (places c.args.self.now widths, left.satisfies) in
    cc
