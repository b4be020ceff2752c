use Rattle.std.proofs.Common.{◌≡◌, ℕ, ◌<◌}
use Rattle.tl_problem.specs.Zones.{range_at}
use Rattle.tl_tidy.proofs.look.first_open.Given as goal

abbrev pub invariant-loop-number : goal.invariant-loop-number
invariant-loop-number l = (t : ℕ) → t < l.number → (range_at l.ranges t).first ≡ (range_at l.ranges t).last
