use Rattle.std.proofs.Common.{refl, inl, arith}
use Rattle.tl_astar.proofs.LowerLaws.{lessened-by}
use Rattle.tl_astar.proofs.SearchLaws.{bound-lent}
use Rattle.tl_astar.proofs.lower.lessened.Goals as goal

pub returns-in-None-clause-lessened : goal.returns-in-None-clause-lessened
returns-in-None-clause-lessened c = record {
  at_most = omega arith;
  proved = inl c.in-None.ensures.area;
  attained = inl refl;
}

pub returns-in-Some-area_of-clause-lessened : goal.returns-in-Some-area_of-clause-lessened
returns-in-Some-area_of-clause-lessened c =
    let p = c.args.problem.now in
    let arena = c.args.arena.now in
    let z = c.args.zone in
    let bound = bound-lent p arena c.requires.arena z c.requires.there c.bounds.result.now _ c.in-Some.bound c.bounds.ensures
    c.in-Some.is in
    lessened-by p arena.trace arena.best.height z c.args.least c.in-Some.bound c.in-Some-area_of.area c.min.result bound
    c.in-Some-area_of.ensures.area
    (omega (arith, c.min.ensures, c.max.ensures))
