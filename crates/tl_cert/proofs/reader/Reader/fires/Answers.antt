use Rattle.std.proofs.Common.{◌≡◌, ◌+◌, ◌-◌, length, refl, ap, ◌∙◌, arith}
use Rattle.std.proofs.lemmas.Result.{err_from_is_err_and}
use Rattle.std.proofs.lemmas.List.{length_push}
use Rattle.tl_cert.specs.declared.limits.TheConstants.{MAX_FIRES}
use Rattle.tl_cert.specs.inner.CertReading.{fires_reading, fires_at}
use Rattle.tl_cert.proofs.Loops.{Stops, stops_by, pushed_on, fails_on, stops_at, fails_at}
use Rattle.tl_cert.proofs.reader.Reader.fires.Goals as goal
use Rattle.tl_cert.proofs.reader.Reader.fires.Goals.{then-fires-test+else-next_is, else-fires-test}

pub returns-in_err-line : goal.returns-in_err-line
returns-in_err-line c =
    let p = err_from_is_err_and c.from_residual.result c.from_residual.ensures.1 in
    let prefix = c.fires.fires in
    rw (p.1, p.2) (fails_on (fires_reading c.args.areas) c.in_err-line.field-0.0 prefix (MAX_FIRES - length prefix)
    (MAX_FIRES - length prefix - 1) tt c.fires.self.rest.now
    (fires_at c.args.areas c.args.self.now.rest.now) (omega arith) (cc) c.in_err-line.ensures c.fires.invariant.whole)

pub fires-preserved : goal.fires-preserved
fires-preserved c =
    let prefix = c.fires.fires in
    let grown : length c.push.new.self ≡ length prefix + 1 =
    ap length c.in_ok-push.ensures.ok ∙ length_push prefix c.in_ok-line.line in
    record {
      whole = pushed_on (fires_reading c.args.areas) prefix c.push.new.self (MAX_FIRES - length prefix)
          (MAX_FIRES - length c.push.new.self) tt tt c.fires.self.rest.now
          c.in_ok-line.line c.in_ok-line.line c.fire.new.self.rest.now (fires_at c.args.areas c.args.self.now.rest.now)
          c.in_ok-push.ensures.ok refl refl
          (omega (arith, grown)) (cc)
          c.in_ok-line.ensures c.fires.invariant.whole;
      room = omega (arith, grown);
    }

pub returns-in_err-end : goal.returns-in_err-end
returns-in_err-end c =
    let p = err_from_is_err_and c.from_residual-in_err-end.result c.from_residual-in_err-end.ensures.1 in
    let prefix = c.fires.fires in
    let stop : Stops (fires_reading c.args.areas) (MAX_FIRES - length prefix) tt c.fires.self.rest.now =
    stops_by (fires_reading c.args.areas) (MAX_FIRES - length prefix) tt c.fires.self.rest.now
    (λ j is. elim c.fires-test.branch [ then-fires-test+else-next_is w ↦ cc | else-fires-test w ↦ absurd (omega arith) ]) in
    rw (p.1, p.2) (fails_at (fires_reading c.args.areas) c.in_err-end.field-0.0 prefix (MAX_FIRES - length prefix)
    tt c.fires.self.rest.now
    (fires_at c.args.areas c.args.self.now.rest.now) stop c.in_err-end.ensures c.fires.invariant.whole)

pub returns : goal.returns
returns c =
    let prefix = c.fires.fires in
    let stop : Stops (fires_reading c.args.areas) (MAX_FIRES - length prefix) tt c.fires.self.rest.now =
    stops_by (fires_reading c.args.areas) (MAX_FIRES - length prefix) tt c.fires.self.rest.now
    (λ j is. elim c.fires-test.branch [ then-fires-test+else-next_is w ↦ cc | else-fires-test w ↦ absurd (omega arith) ]) in
    stops_at (fires_reading c.args.areas) prefix (MAX_FIRES - length prefix)
    tt c.fires.self.rest.now c.in_ok-end.end c.end.new.self.rest.now
    (fires_at c.args.areas c.args.self.now.rest.now) stop c.in_ok-end.ensures c.fires.invariant.whole
