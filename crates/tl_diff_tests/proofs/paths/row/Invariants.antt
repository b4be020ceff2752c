use Rattle.std.proofs.Common.{◌≡◌, ℕ, ◌*◌, ◌<◌, ◌≤◌, length}
use Rattle.tl_diff.specs.Paths.{arc_at, InOrder, LeadForward, total_weight}
use Rattle.tl_diff_tests.proofs.paths.row.Given as goal

abbrev pub invariant-loop-from : goal.invariant-loop-from
invariant-loop-from l = record {
  forward : LeadForward l.n l.arcs.items;
  in_order : InOrder l.arcs.items;
  before : (i : ℕ) → i < length l.arcs.items → (arc_at l.arcs.items i).from ≤ l.from;
  weight : total_weight l.arcs.items ≡ 2 * l.from;
  count : length l.arcs.items ≡ l.from;
}
