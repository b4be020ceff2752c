use Rattle.std.proofs.Common.{◌+◌, ◌-◌, refl, arith}
use Rattle.std.proofs.lemmas.Result.{err_from_is_err_and}
use Rattle.tl_cert.specs.inner.CertReading.{cuts_reading, cuts_at}
use Rattle.tl_cert.specs.inner.reading.Readings.{give}
use Rattle.tl_cert.proofs.Loops.{Stops, stops_by, pushed_on, fails_on, stops_at}
use Rattle.tl_cert.proofs.reader.Reader.cuts.Goals as goal

pub returns-in_err-cut : goal.returns-in_err-cut
returns-in_err-cut c =
    let p = err_from_is_err_and c.from_residual.result c.from_residual.ensures.1 in
    rw (p.1, p.2) (fails_on cuts_reading c.in_err-cut.field-0.0 c.cuts.cuts (c.args.count - c.cuts.counter)
    (c.args.count - (c.cuts.counter + 1)) tt c.cuts.self.rest.now
    (cuts_at c.args.count c.args.self.now.rest.now) (omega arith) refl c.in_err-cut.ensures c.cuts.invariant)

pub cuts-preserved : goal.cuts-preserved
cuts-preserved c =
    pushed_on cuts_reading c.cuts.cuts c.push.new.self (c.args.count - c.cuts.counter) (c.args.count - (c.cuts.counter + 1))
    tt tt c.cuts.self.rest.now
    c.in_ok-cut.cut c.in_ok-cut.cut c.cut.new.self.rest.now (cuts_at c.args.count c.args.self.now.rest.now)
    c.in_ok-push.ensures.ok refl refl (omega arith) refl
    c.in_ok-cut.ensures c.cuts.invariant

pub returns : goal.returns
unfolding give
returns c =
    let room = c.args.count - c.cuts.counter in
    let stop : Stops cuts_reading room tt c.cuts.self.rest.now =
    stops_by cuts_reading room tt c.cuts.self.rest.now (λ j is. absurd (omega arith)) in
    stops_at cuts_reading c.cuts.cuts room tt c.cuts.self.rest.now tt c.cuts.self.rest.now
    (cuts_at c.args.count c.args.self.now.rest.now) stop refl c.cuts.invariant
