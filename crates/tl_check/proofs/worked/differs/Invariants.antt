use Rattle.std.proofs.Common.{◌<◌}
use Rattle.tl_problem.specs.Agreement.{DifferIn}
use Rattle.tl_cert.specs.Traces.{zone_of}
use Rattle.tl_check.proofs.worked.differs.Given as goal

abbrev pub invariant-loop-s : goal.invariant-loop-s
invariant-loop-s l =
    (d : DifferIn l.problem (zone_of l.problem l.trace l.z)) → d.s < l.s → ⊥
