use Rattle.std.proofs.Common.{◌≡◌, length, take}
use Rattle.tl_cert.specs.Traces.{IsTraceOf}
use Rattle.tl_check.specs.inner.Traces.{AreFlags}
use Rattle.tl_check.proofs.traces.is_trace.Given as goal

abbrev pub invariant-loop-i : goal.invariant-loop-i
invariant-loop-i l = record {
  cuts : IsTraceOf l.problem (take l.i l.trace);
  flags : AreFlags (take l.i l.trace) l.is_cut;
  room : length l.is_cut ≡ length l.fn.is_cut;
}
