use Rattle.std.proofs.Common.{ℕ, ◌<◌, get_or}
use Rattle.tl_problem.specs.declared.cell.Cell.{Cell}
use Rattle.tl_problem.specs.inner.Agreeing.{AreSameUpTo}
use Rattle.tl_problem.proofs.agreement.agree_up_to.Given as goal

abbrev pub invariant-loop-number : goal.invariant-loop-number
invariant-loop-number l = (k : ℕ) (d : Cell) → k < l.number → AreSameUpTo (get_or l.cells k d).low (get_or l.cells k d).high l.most
