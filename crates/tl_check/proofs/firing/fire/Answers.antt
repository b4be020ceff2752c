-- By what is left of the nogood.
use Rattle.tl_cert.specs.Nogoods.{nogood_bounds}
use Rattle.tl_check.proofs.Spans.{nogood-span}
use Rattle.tl_check.proofs.LeftLaws.{fires-nothing, fires-one, fires-never}
use Rattle.tl_check.proofs.firing.fire.Goals as goal

pub keep_broken-requires-clause-span : goal.keep_broken-requires-clause-span
keep_broken-requires-clause-span c =
    nogood-span c.args.problem.now c.requires.keeps.sound c.args.trace.now c.requires.trace c.args.nogood.now c.requires.names
    c.in-One.bound
    c.in-One.ensures.among

pub returns-in-Nothing-clause-yes : goal.returns-in-Nothing-clause-yes
returns-in-Nothing-clause-yes c = λ yes given nogoods h.
    fires-nothing c.args.problem.now given (nogood_bounds c.args.problem.now c.args.trace.now c.args.nogood.now)
    c.args.matrix.now nogoods
    c.in-Nothing.ensures h

pub returns-in-One-clause-yes : goal.returns-in-One-clause-yes
returns-in-One-clause-yes c = λ yes given nogoods h.
    fires-one c.args.problem.now given (nogood_bounds c.args.problem.now c.args.trace.now c.args.nogood.now)
    c.args.matrix.now nogoods c.in-One.bound
    c.keep_broken.new.matrix c.in-One.ensures c.keep_broken.ensures h

pub returns-in-More-clause-no : goal.returns-in-More-clause-no
returns-in-More-clause-no c = λ no given nogoods more h.
    fires-never c.args.problem.now given (nogood_bounds c.args.problem.now c.args.trace.now c.args.nogood.now)
    c.args.matrix.now nogoods more
    c.in-More.ensures h
