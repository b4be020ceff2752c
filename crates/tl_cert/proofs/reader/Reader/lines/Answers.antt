use Rattle.std.proofs.Common.{◌≡◌, ℕ, ◌+◌, ◌-◌, refl, sym, ap, ◌∙◌, arith}
use Rattle.std.proofs.lemmas.Result.{err_from_is_err_and}
use Rattle.tl_cert.specs.declared.areas.Areas.{Areas}
use Rattle.tl_cert.specs.inner.Areas.{for_part, after}
use Rattle.tl_cert.specs.inner.CertReading.{lines_reading, lines_at, line_at}
use Rattle.tl_cert.specs.inner.Gives.{FailsBy}
use Rattle.tl_cert.specs.inner.reading.Readings.{give}
use Rattle.tl_cert.proofs.Loops.{Stops, stops_by, pushed_on, fails_on, stops_at}
use Rattle.tl_cert.proofs.reader.Reader.lines.Goals as goal

pub returns-in_err-line : goal.returns-in_err-line
returns-in_err-line c =
    let p = err_from_is_err_and c.from_residual.result c.from_residual.ensures.1 in
    let k = c.args.count - (c.lines.number + 1) in
    let asked : for_part k c.lines.asked ≡ c.for_part.result =
    ap (λ (j : ℕ). for_part j c.lines.asked) (omega arith) ∙ sym c.for_part.ensures in
    let failed : FailsBy c.in_err-line.field-0.0 (line_at (for_part k c.lines.asked) c.lines.self.rest.now) =
    rw asked c.in_err-line.ensures in
    rw (p.1, p.2) (fails_on lines_reading c.in_err-line.field-0.0 c.lines.lines (c.args.count - c.lines.number)
    k c.lines.asked c.lines.self.rest.now
    (lines_at c.args.count c.args.areas c.args.self.now.rest.now) (omega arith) refl failed c.lines.invariant)

pub lines-preserved : goal.lines-preserved
lines-preserved c =
    let k = c.args.count - (c.lines.number + 1) in
    let line = c.in_ok-line.line in
    let asked : for_part k c.lines.asked ≡ c.for_part.result =
    ap (λ (j : ℕ). for_part j c.lines.asked) (omega arith) ∙ sym c.for_part.ensures in
    pushed_on lines_reading c.lines.lines c.push.new.self (c.args.count - c.lines.number)
    k c.lines.asked c.after-asked.result c.lines.self.rest.now
    line line c.line.new.self.rest.now (lines_at c.args.count c.args.areas c.args.self.now.rest.now) c.in_ok-push.ensures.ok refl
    (sym (c.after-asked.ensures ∙ ap (after c.lines.asked) c.is_area.ensures)) (omega arith) refl
    (ap (λ (areas : Areas). line_at areas c.lines.self.rest.now) asked ∙ c.in_ok-line.ensures) c.lines.invariant

pub returns : goal.returns
unfolding give
returns c =
    let room = c.args.count - c.lines.number in
    let stop : Stops lines_reading room c.lines.asked c.lines.self.rest.now =
    stops_by lines_reading room c.lines.asked c.lines.self.rest.now
    (λ j is. absurd (omega arith)) in
    stops_at lines_reading c.lines.lines room c.lines.asked c.lines.self.rest.now tt c.lines.self.rest.now
    (lines_at c.args.count c.args.areas c.args.self.now.rest.now) stop refl c.lines.invariant
