use Rattle.std.proofs.Common.{◌≡◌, arith}
use Rattle.tl_diff.specs.Bounds.{bounds_of}
use Rattle.tl_diff.proofs.InsertionLemmas.{IsFree-own, IsSound-free}
use Rattle.tl_diff.proofs.closed_bounds.ClosedBounds.new.Goals as goal

pub loop-variable-preserved : goal.loop-variable-preserved
loop-variable-preserved c = IsFree-own c.args.variables c.loop-variable.rows.items c.loop-variable.variable
    c.loop-variable.invariant c.loop-variable-test.true

pub invariant_of-result : goal.invariant_of-result
invariant_of-result c =
    let all : c.loop-variable.variable ≡ c.args.variables = omega arith in
    IsSound-free (bounds_of c.args.variables c.loop-variable.rows.items) (rw all at c.loop-variable.invariant)
    c.requires.some c.requires.few
