use Rattle.std.proofs.Common.{◌≡◌, ◌+◌, false, length}
use Rattle.std.specs.Prelude.{if◌then◌else◌}
use Rattle.tl_check.specs.Checkers.{IsReserved, StaysReserved}
use Rattle.tl_store.specs.inner.Passes.{AreLessened, NoneIsTaken}
use Rattle.tl_store.proofs.shrinking.shrink_line.Given as goal

abbrev pub invariant-passes : goal.invariant-passes
invariant-passes l = record {
  lessened : AreLessened l.problem l.trace l.log l.lower l.line l.bounds.items;
  ended : l.again ≡ false → NoneIsTaken l.problem l.trace l.log l.lower l.line l.bounds.items (length l.bounds.items);
  reserved : IsReserved l.problem (length l.trace) l.checker;
  stays : StaysReserved l.problem l.fn.checker l.checker;
}

abbrev pub decreases-passes : goal.decreases-passes
decreases-passes l = length l.bounds.items + (if l.again then 1 else 0)
