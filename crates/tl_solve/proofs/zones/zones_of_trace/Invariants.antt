use Rattle.std.proofs.Common.{◌≡◌, take}
use Rattle.tl_problem.specs.Zones.{whole_zone}
use Rattle.tl_cert.specs.Traces.{zones_of}
use Rattle.tl_solve.proofs.zones.zones_of_trace.Given as goal

abbrev pub invariant-loop-number : goal.invariant-loop-number
invariant-loop-number l = l.zones.items ≡ zones_of (whole_zone l.problem) (take l.number l.trace)
