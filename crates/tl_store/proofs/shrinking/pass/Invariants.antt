use Rattle.std.proofs.Common.{◌≡◌, ◌<◌, ◌≤◌, ◌-◌, true, false, length}
use Rattle.tl_check.specs.Checkers.{IsReserved, StaysReserved}
use Rattle.tl_store.specs.inner.Passes.{AreLessened, NoneIsTaken}
use Rattle.tl_store.proofs.shrinking.pass.Given as goal

abbrev pub invariant-places : goal.invariant-places
invariant-places l = record {
  lessened : AreLessened l.problem l.trace l.log l.lower l.line l.left.items;
  there : l.place ≤ length l.left.items;
  no_more : length l.left.items ≤ length l.fn.bounds.items;
  fewer : l.taken ≡ true → length l.left.items < length l.fn.bounds.items;
  none : l.taken ≡ false → NoneIsTaken l.problem l.trace l.log l.lower l.line l.left.items l.place;
  reserved : IsReserved l.problem (length l.trace) l.checker;
  stays : StaysReserved l.problem l.fn.checker l.checker;
}

abbrev pub decreases-places : goal.decreases-places
decreases-places l = length l.left.items - l.place
