use Rattle.std.proofs.Common.{subst}
use Rattle.tl_problem.specs.declared.placed.Placed.{Placed}
use Rattle.tl_problem.specs.Problem.{ProblemModel}
use Rattle.tl_form.specs.Valid.{HasPlacement}
use Rattle.tl_form.specs.Nested.{IsProblemFor}
use Rattle.tl_form.proofs.Placing.{found_none, found_some, one_for}
use Rattle.tl_form.proofs.laid.lay.Goals as goal

pub returns-in_default : goal.returns-in_default
returns-in_default c = λ problem placed of has.
    found_none c.in_ok-problem.field-0
    ((one : ProblemModel) → IsProblemFor c.args.table.now c.args.style c.args.section.now.width c.args.before.now one → ⊥)
    (IsProblemFor c.args.table.now c.args.style c.args.section.now.width c.args.before.now)
    c.in_default.is c.in_ok-problem.ensures problem of

pub returns-in-None : goal.returns-in-None
returns-in-None c = λ problem placed of has.
    let own = found_some c.in_ok-problem.field-0 c.in-Some.problem
    ((one : ProblemModel) → IsProblemFor c.args.table.now c.args.style c.args.section.now.width c.args.before.now one → ⊥)
    (IsProblemFor c.args.table.now c.args.style c.args.section.now.width c.args.before.now)
    c.in-Some.is c.in_ok-problem.ensures in
    let same = one_for c.args.table.now c.args.style c.args.section.now.width c.args.before.now problem c.in-Some.problem of
    own in
    found_none c.in_ok-placed.field-0 ((one : Placed) → HasPlacement c.args.section.now c.in-Some.problem one → ⊥)
    (HasPlacement c.args.section.now c.in-Some.problem) c.in-None.is c.in_ok-placed.ensures placed
    (subst (λ p. HasPlacement c.args.section.now p placed) same has)
