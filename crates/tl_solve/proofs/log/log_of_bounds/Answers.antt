use Rattle.std.proofs.Common.{◌≡◌, ◌+◌, ◌*◌, length, sym, subst, arith}
use Rattle.tl_cert.specs.Lines.{IsGoodLog}
use Rattle.tl_cert.specs.Text.{IsLogWritable}
use Rattle.tl_solve.specs.TraceLogs.{IsTraceLog}
use Rattle.tl_solve.specs.CutsFound.{AreCutsOf}
use Rattle.tl_solve.specs.inner.Shapes.{AreLinesOf}
use Rattle.tl_solve.proofs.GoodLines.{log-good}
use Rattle.tl_solve.proofs.TraceLogLaws.{trace-log}
use Rattle.tl_solve.proofs.Writable.{log-writable}
use Rattle.std.proofs.lemmas.Result.{IfOk-weaker}
use Rattle.tl_solve.proofs.log.log_of_bounds.Goals as goal

pub returns-clause-good : goal.returns-clause-good
returns-clause-good c =
    let trace = c.args.trace.now in
    let cuts = c.deref.result.now in
    let last : 2 * c.len.result ≡ 2 * length trace = omega (arith, c.len.ensures) in
    IfOk-weaker c.lines_of_zones.result (AreLinesOf (2 * c.len.result) cuts c.args.bounds.now c.args.lower (2 * c.len.result + 1))
    (λ log. IsGoodLog c.args.problem.now trace log c.args.lower)
    (λ log lines. log-good c.args.problem.now c.requires.sound trace c.requires.trace_of c.args.lower c.requires.standing cuts
    c.args.bounds.now
    c.requires.bounds
    (subst (AreCutsOf trace (length trace)) (sym c.deref.ensures.value) c.in_ok-cuts.ensures) log
    (subst (λ n. AreLinesOf n cuts c.args.bounds.now c.args.lower (n + 1) log) last lines))
    c.lines_of_zones.ensures

pub returns-clause-writable : goal.returns-clause-writable
returns-clause-writable c =
    let cuts = c.deref.result.now in
    IfOk-weaker c.lines_of_zones.result (AreLinesOf (2 * c.len.result) cuts c.args.bounds.now c.args.lower
    (2 * c.len.result + 1)) IsLogWritable
    (λ log lines. log-writable (2 * c.len.result) c.args.lower cuts c.args.bounds.now log
    (omega (arith, c.len.ensures, c.requires.few)) lines)
    c.lines_of_zones.ensures

pub returns-clause-lines : goal.returns-clause-lines
returns-clause-lines c =
    let p = c.args.problem.now in
    let trace = c.args.trace.now in
    let cuts = c.deref.result.now in
    let last : 2 * c.len.result ≡ 2 * length trace = omega (arith, c.len.ensures) in
    IfOk-weaker c.lines_of_zones.result (AreLinesOf (2 * c.len.result) cuts c.args.bounds.now c.args.lower (2 * c.len.result + 1))
    (IsTraceLog p trace c.args.lower)
    (λ log lines. trace-log p c.requires.sound trace c.requires.trace_of c.args.lower c.requires.standing cuts c.args.bounds.now
    c.requires.bounds (subst (AreCutsOf trace (length trace)) (sym c.deref.ensures.value) c.in_ok-cuts.ensures) log
    (subst (λ n. AreLinesOf n cuts c.args.bounds.now c.args.lower (n + 1) log) last lines))
    c.lines_of_zones.ensures
