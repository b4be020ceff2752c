use Rattle.std.proofs.Common.{◌≡◌, ℕ, ◌+◌, ◌-◌, true, nat_lt, length, refl, ap, ◌∙◌, arith}
use Rattle.std.proofs.lemmas.Result.{err_from_is_err_and}
use Rattle.std.proofs.lemmas.List.{length_push}
use Rattle.tl_base.specs.declared.limits.TheConstants.{MAX_COLUMNS}
use Rattle.tl_cert.specs.inner.CertReading.{widths_reading, some_widths_at, width_at, more_turn}
use Rattle.tl_cert.specs.inner.reading.Readings.{give}
use Rattle.tl_cert.specs.inner.reading.Lists.{comes}
use Rattle.tl_cert.proofs.Loops.{Stops, stops_by, pushed_on, fails_on, stops_at}
use Rattle.tl_cert.proofs.reader.Reader.some_widths.Goals as goal
use Rattle.tl_cert.proofs.reader.Reader.some_widths.Goals.{then-widths-test+else-len-lt-MAX_COLUMNS, else-widths-test}

pub returns-in_err-width : goal.returns-in_err-width
returns-in_err-width c =
    let p = err_from_is_err_and c.from_residual.result c.from_residual.ensures.1 in
    let prefix = c.widths.widths in
    let come : comes (more_turn c.widths.more) c.widths.self.rest.now ≡ true =
    ap (λ more. comes (more_turn more) c.widths.self.rest.now) c.widths-test.true in
    rw (p.1, p.2) (fails_on widths_reading c.in_err-width.field-0.0 prefix (MAX_COLUMNS - length prefix)
    (MAX_COLUMNS - 1 - c.len-in-widths.result) c.widths.more c.widths.self.rest.now
    (some_widths_at c.args.self.now.rest.now) (omega arith) come c.in_err-width.ensures c.widths.invariant.whole)

pub widths-preserved : goal.widths-preserved
widths-preserved c =
    let prefix = c.widths.widths in
    let grown : length c.push.new.self ≡ length prefix + 1 =
    ap length c.in_ok-push.ensures.ok ∙ length_push prefix c.in_ok-width.width in
    let come : comes (more_turn c.widths.more) c.widths.self.rest.now ≡ true =
    ap (λ more. comes (more_turn more) c.widths.self.rest.now) c.widths-test.true in
    let k : MAX_COLUMNS - length c.push.new.self ≡ MAX_COLUMNS - 1 - c.len-in-widths.result = omega (arith, grown) in
    record {
      whole = pushed_on widths_reading prefix c.push.new.self (MAX_COLUMNS - length prefix)
          (MAX_COLUMNS - length c.push.new.self) c.widths.more c.in_ok-width.follows c.widths.self.rest.now
          (c.in_ok-width.width, c.in_ok-width.follows) c.in_ok-width.width c.width.new.self.rest.now
          (some_widths_at c.args.self.now.rest.now) c.in_ok-push.ensures.ok refl refl (omega (arith, grown)) come
          (ap (λ (j : ℕ). width_at (nat_lt 0 j) c.widths.self.rest.now) k ∙ c.in_ok-width.ensures) c.widths.invariant.whole;
      room = omega (arith, grown);
    }

pub returns : goal.returns
unfolding give
returns c =
    let prefix = c.widths.widths in
    let room = MAX_COLUMNS - length prefix in
    let stop : Stops widths_reading room c.widths.more c.widths.self.rest.now =
    stops_by widths_reading room c.widths.more c.widths.self.rest.now
    (λ j is. elim c.widths-test.branch [
      | then-widths-test+else-len-lt-MAX_COLUMNS w ↦ absurd (omega arith)
      | else-widths-test w ↦ ap (λ more. comes (more_turn more) c.widths.self.rest.now) w.widths-test.false
    ]) in
    stops_at widths_reading prefix room c.widths.more c.widths.self.rest.now tt c.widths.self.rest.now
    (some_widths_at c.args.self.now.rest.now) stop refl c.widths.invariant.whole
