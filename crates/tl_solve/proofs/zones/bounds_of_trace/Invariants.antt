use Rattle.std.proofs.Common.{◌≡◌, ℕ, ◌<◌, length, get_or, Option}
use Rattle.tl_problem.specs.Works.{IsWorkOf}
use Rattle.tl_cert.specs.Traces.{zone_of}
use Rattle.tl_solve.specs.Arenas.{IsBoundFound}
use Rattle.tl_solve.proofs.zones.bounds_of_trace.Given as goal

abbrev pub invariant-loop-number : goal.invariant-loop-number
invariant-loop-number l = record {
  work : IsWorkOf l.problem l.work;
  count : length l.bounds.items ≡ l.number;
  each : (z : ℕ) (d : Option ℕ) → z < l.number → IsBoundFound l.problem (zone_of l.problem l.trace z) (get_or l.bounds.items z d);
}
