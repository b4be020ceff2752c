-- A returned bound that is a number is the tightest, so that not every number is passed.
use Rattle.std.proofs.Common.{⊎_elim, arith, rules}
use Rattle.std.proofs.lemmas.Bool.{cases_eq}
use Rattle.tl_diff.specs.Bounds.{HasNoGreatest}
use Rattle.tl_diff.proofs.BoundLaws.{HasGreatest-some, IsGreatest-bounded}
use Rattle.tl_diff_tests.proofs.matrices.least.Goals as goal

pub loop-variable-preserved : goal.loop-variable-preserved
loop-variable-preserved g c = λ k below none.
    let here = HasGreatest-some c.args.matrix.now.bounds c.loop-variable.variable 0 c.upper.result c.upper.ensures.exact
    (search rules) in
    ⊎_elim
    (λ e. let free : HasNoGreatest c.args.matrix.now.bounds c.loop-variable.variable 0 = rw e at none in
    IsGreatest-bounded c.args.matrix.now.bounds c.loop-variable.variable 0 here.0 here.1 free)
    (λ apart. c.loop-variable.invariant k (omega arith) none)
    (cases_eq k c.loop-variable.variable)
