use Rattle.std.proofs.Common.{◌+◌, ◌-◌, ◌*◌, ◌≤◌, length, reverse}
use Rattle.tl_problem.specs.Works.{IsWorkOf}
use Rattle.tl_tidy.specs.inner.Walk.{IsLeft}
use Rattle.tl_tidy.proofs.walk.walk_zones.Given as goal

abbrev pub invariant-loop-zone : goal.invariant-loop-zone
invariant-loop-zone l = record {
  work : IsWorkOf l.problem l.work;
  within : l.cuts ≤ l.quota;
  left : IsLeft l.problem l.height l.cuts (reverse l.stack.items);
}

abbrev pub decreases-loop-zone : goal.decreases-loop-zone
decreases-loop-zone l = 2 * (l.quota - l.cuts) + length l.stack.items
