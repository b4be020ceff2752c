use Rattle.std.proofs.Common.{◌≡◌, subst, arith}
use Rattle.std.specs.Option.{MatchOption}
use Rattle.tl_problem.specs.Layouts.{WithinPage}
use Rattle.tl_problem.specs.Placements.{IsPlacement}
use Rattle.tl_tidy.proofs.WalkLaws.{placement-holds}
use Rattle.tl_search_tests.proofs.choices.is_chosen.Goals as goal

pub choose-requires-clause-some : goal.choose-requires-clause-some
choose-requires-clause-some c =
    let p = c.args.problem.now in
    let layout = subst (λ o. MatchOption o (WithinPage p c.args.widths.now → ⊥)
    (λ placed. IsPlacement p placed × (placed.widths ≡ c.args.widths.now))) c.in-Some.is c.in_ok-layout.ensures in
    placement-holds p c.cells.ensures.sound c.args.height c.in-Some.layout layout.0
    (omega (arith, c.if-layout-height.false))
