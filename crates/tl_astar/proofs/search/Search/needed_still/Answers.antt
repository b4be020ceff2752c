use Rattle.std.proofs.Common.{◌≡◌, ap, subst, arith}
use Rattle.std.proofs.lemmas.Bool.Decides.{nat_tests}
use Rattle.tl_problem.specs.declared.placed.Placed.{Placed}
use Rattle.tl_astar.specs.inner.Frontier.{IsNeededCut}
use Rattle.tl_astar.proofs.SearchLaws.{needed-some}
use Rattle.tl_astar.proofs.search.Search.needed_still.Goals as goal

pub returns-then-best-height-clause-needed : goal.returns-then-best-height-clause-needed
returns-then-best-height-clause-needed c =
    let arena = c.args.self.now.arena in
    let found = c.first_cut.ensures in
    needed-some c.args.problem.now arena.trace arena.best.height c.args.first.zone c.first_cut.result found.zone found.first
    found.below found.below_by_area

pub returns-clause-needed : goal.returns-clause-needed
returns-clause-needed c =
    let arena = c.args.self.now.arena in
    let best = ap (λ (b : Placed). b.height) c.best.ensures in
    let same : c.args.height ≡ arena.best.height = grind (arith, nat_tests, best) in
    subst (λ h. IsNeededCut c.args.problem.now arena.trace h c.args.first) same c.requires.needed
