-- Cut by cut.
use Rattle.std.proofs.Common.{◌+◌, ◌*◌, ◌<◌, ◌≤◌, true, List}
use Rattle.std.proofs.Common.{length, get_or, take, sym, ◌∙◌, subst, arith}
use Rattle.std.specs.Prelude.{set}
use Rattle.std.proofs.lemmas.List.{take_more, length-take, length-set}
use Rattle.tl_problem.specs.Zones.{whole_zone}
use Rattle.tl_cert.specs.declared.trace.CutAt.{CutAt}
use Rattle.tl_cert.specs.Traces.{IsTraceOf}
use Rattle.tl_cert.proofs.TraceLaws.{trace-push}
use Rattle.tl_check.specs.inner.Traces.{AreFlags}
use Rattle.tl_check.proofs.Flags.{flags-push}
use Rattle.tl_check.proofs.traces.is_trace.Goals as goal

pub loop-i-preserved : goal.loop-i-preserved
loop-i-preserved c =
    let p = c.args.problem.now in
    let trace = c.args.trace.now in
    let i = c.loop-i.i in
    let flags = c.loop-i.is_cut in
    let cut : CutAt = get_or trace i (record { zone = 0; span = 0; class = 0 }) in
    let more = take_more trace i (record { zone = 0; span = 0; class = 0 }) c.loop-i-test.true in
    let short = length-take i trace in
    let now = c.is_cut_after.ensures.0 c.if-not-is_cut_after.false in
    let room : 2 * (length (take i trace) + 1) + 1 ≤ length flags =
    omega (arith, c.requires.room, c.loop-i.invariant.room, c.loop-i-test.true, short) in
    let there : cut.zone < length flags = omega (
      arith,
      now.stands.there,
      c.requires.room,
      c.loop-i.invariant.room,
      c.loop-i-test.true,
      short,
    ) in
    record {
      cuts = subst (λ (cs : List CutAt). IsTraceOf p cs) (sym more)
          (trace-push (whole_zone p) (take i trace) cut c.loop-i.invariant.cuts now);
      flags = subst (λ (cs : List CutAt). AreFlags cs (set flags cut.zone true)) (sym more)
          (flags-push (take i trace) cut flags room there c.loop-i.invariant.flags);
      room = length-set flags cut.zone true ∙ c.loop-i.invariant.room;
    }
