-- The area bound is that of the zone, by which the best placement stays.
use Rattle.std.proofs.Common.{◌<◌, ◌≤◌, inl, inr, ap, ◌∙◌, arith}
use Rattle.std.proofs.lemmas.Bool.Decides.{nat_tests}
use Rattle.tl_problem.specs.declared.placed.Placed.{Placed}
use Rattle.tl_solve.specs.declared.arena.Arena.{Arena}
use Rattle.tl_astar.proofs.search.is_area_enough.Goals as goal

pub returns-in-Some-clause-area : goal.returns-in-Some-clause-area
returns-in-Some-clause-area c = λ yes.
    let enough : c.best.result.now.height ≤ c.in-Some.area = grind (arith, nat_tests) in
    let best = ap (λ (b : Placed). b.height) c.best.ensures ∙ ap (λ (a : Arena). a.best.height) c.in-Some.ensures.same in
    (c.in-Some.area, c.in-Some.ensures.area, omega (arith, enough, best))

pub returns-in-Some-clause-below : goal.returns-in-Some-clause-below
returns-in-Some-clause-below c = λ no.
    let less : c.in-Some.area < c.best.result.now.height = grind (arith, nat_tests) in
    let best = ap (λ (b : Placed). b.height) c.best.ensures ∙ ap (λ (a : Arena). a.best.height) c.in-Some.ensures.same in
    inr (c.in-Some.area, c.in-Some.ensures.area, omega (arith, less, best))

pub returns-in-None-clause-below : goal.returns-in-None-clause-below
returns-in-None-clause-below c = λ _. inl c.in-None.ensures.area
