-- The bounds of a span are the one from above and the one from below.
use Rattle.std.proofs.Common.{◌++◌, List, [], ap, ◌∙◌, subst, append_assoc}
use Rattle.tl_cert.specs.declared.log.Bound.{Bound}
use Rattle.tl_check.specs.Matrices.{Describes}
use Rattle.tl_check.specs.inner.Matrices.{some_list}
use Rattle.tl_check.proofs.Spans.{range-bounds}
use Rattle.tl_check.proofs.ranges.keep_range.Goals as goal

pub returns-clause-describes : goal.returns-clause-describes
returns-clause-describes c = λ given has.
    let p = c.args.problem.now in
    let both = range-bounds p c.args.s c.args.range c.upper_bound.result c.lower_bound.result c.upper_bound.ensures.bound
    c.lower_bound.ensures.bound in
    subst (λ (l : List Bound). Describes p l [] c.keep_some-2.new.matrix.bounds)
    (append_assoc given (some_list c.upper_bound.result) (some_list c.lower_bound.result) ∙ ap (λ l. given ++ l) both)
    (c.keep_some-2.ensures.describes _ (c.keep_some.ensures.describes given has))
