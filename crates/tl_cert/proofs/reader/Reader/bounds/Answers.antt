use Rattle.std.proofs.Common.{◌≡◌, ◌+◌, ◌-◌, List, [], ◌∷◌, ◌++◌, length, refl, ap, ◌∙◌, arith}
use Rattle.std.specs.Prelude.{Some, None}
use Rattle.std.proofs.lemmas.Result.{err_from_is_err_and}
use Rattle.std.proofs.lemmas.List.{length_push}
use Rattle.tl_cert.specs.declared.log.Bound.{Bound}
use Rattle.tl_cert.specs.declared.limits.TheConstants.{MAX_BOUNDS}
use Rattle.tl_cert.specs.inner.CertReading.{bounds_reading, bounds_at}
use Rattle.tl_cert.specs.inner.reading.Lists.{listing}
use Rattle.tl_cert.proofs.Loops.{Stops, stops_by, pushed_on, fails_on, stops_at, fails_at, starts}
use Rattle.tl_cert.proofs.reader.Reader.bounds.Goals as goal
use Rattle.tl_cert.proofs.reader.Reader.bounds.Goals.{then-bounds-test+else-next_is_digit, else-bounds-test}

pub returns-in_err-before : goal.returns-in_err-before
returns-in_err-before c =
    let p = err_from_is_err_and c.from_residual.result c.from_residual.ensures.1 in
    let reading = bounds_reading c.args.areas in
    rw (p.1, p.2) (fails_on reading c.in_err-before.field-0.0 [] MAX_BOUNDS (MAX_BOUNDS - 1) None c.args.self.now.rest.now
    (bounds_at c.args.areas c.args.self.now.rest.now) refl refl c.in_err-before.ensures.gives
    (starts reading MAX_BOUNDS None c.args.self.now.rest.now))

pub bounds-init : goal.bounds-init
bounds-init c =
    let reading = bounds_reading c.args.areas in
    let bound = c.in_ok-before.before in
    let new-is : c.push.new.self ≡ [] ++ bound ∷ [] = c.in_ok-push.ensures.ok ∙ ap
    (λ (bounds : List Bound). bounds ++ bound ∷ []) c.new-bounds.ensures in
    let grown : length c.push.new.self ≡ 1 = ap length new-is in
    record {
      whole = pushed_on reading [] c.push.new.self MAX_BOUNDS (MAX_BOUNDS - length c.push.new.self) None
          (Some bound) c.args.self.now.rest.now bound bound c.bound.new.self.rest.now
          (bounds_at c.args.areas c.args.self.now.rest.now) new-is refl refl (omega (arith, grown))
          refl c.in_ok-before.ensures.gives
          (starts reading MAX_BOUNDS None c.args.self.now.rest.now);
      room = omega (arith, grown);
      last = c.in_ok-before.ensures.most;
    }

pub returns-in_err-bound : goal.returns-in_err-bound
returns-in_err-bound c =
    let p = err_from_is_err_and c.from_residual-in_err-bound.result c.from_residual-in_err-bound.ensures.1 in
    let prefix = c.bounds.bounds in
    rw (p.1, p.2) (fails_on (bounds_reading c.args.areas) c.in_err-bound.field-0.0 prefix (MAX_BOUNDS - length prefix)
    (MAX_BOUNDS - 1 - length prefix)
    (Some c.bounds.before) c.bounds.self.rest.now
    (bounds_at c.args.areas c.args.self.now.rest.now) (omega arith) (cc) c.in_err-bound.ensures.gives c.bounds.invariant.whole)

pub bounds-preserved : goal.bounds-preserved
bounds-preserved c =
    let prefix = c.bounds.bounds in
    let bound = c.in_ok-bound.bound in
    let new = c.push-in-bounds.new.self in
    let grown : length new ≡ length prefix + 1 = ap length c.in_ok-push-2.ensures.ok ∙ length_push prefix bound in
    record {
      whole = pushed_on (bounds_reading c.args.areas) prefix new (MAX_BOUNDS - length prefix) (MAX_BOUNDS - length new)
          (Some c.bounds.before)
          (Some bound) c.bounds.self.rest.now bound bound
          c.bound-in-bounds.new.self.rest.now (bounds_at c.args.areas c.args.self.now.rest.now)
          c.in_ok-push-2.ensures.ok refl refl (omega (arith, grown))
          (cc) c.in_ok-bound.ensures.gives c.bounds.invariant.whole;
      room = omega (arith, grown);
      last = c.in_ok-bound.ensures.most;
    }

pub returns-in_err-fires : goal.returns-in_err-fires
returns-in_err-fires c =
    let p = err_from_is_err_and c.from_residual-in_err-fires.result c.from_residual-in_err-fires.ensures.1 in
    let prefix = c.bounds.bounds in
    let reading = bounds_reading c.args.areas in
    let room = MAX_BOUNDS - length prefix in
    let stop : Stops reading room (Some c.bounds.before) c.bounds.self.rest.now =
    stops_by reading room (Some c.bounds.before) c.bounds.self.rest.now
    (λ j is. elim c.bounds-test.branch [
      | then-bounds-test+else-next_is_digit w ↦ cc
      | else-bounds-test w ↦ absurd (omega arith)
    ]) in
    rw (p.1, p.2) (fails_at reading c.in_err-fires.field-0.0 prefix room (Some c.bounds.before) c.bounds.self.rest.now
    (bounds_at c.args.areas c.args.self.now.rest.now) stop c.in_err-fires.ensures c.bounds.invariant.whole)

pub returns : goal.returns
returns c =
    let prefix = c.bounds.bounds in
    let reading = bounds_reading c.args.areas in
    let room = MAX_BOUNDS - length prefix in
    let stop : Stops reading room (Some c.bounds.before) c.bounds.self.rest.now =
    stops_by reading room (Some c.bounds.before) c.bounds.self.rest.now
    (λ j is. elim c.bounds-test.branch [
      | then-bounds-test+else-next_is_digit w ↦ cc
      | else-bounds-test w ↦ absurd (omega arith)
    ]) in
    stops_at reading prefix room (Some c.bounds.before) c.bounds.self.rest.now (listing c.in_ok-fires.fires c.in_ok-fires.end)
    c.fires.new.self.rest.now
    (bounds_at c.args.areas c.args.self.now.rest.now) stop c.in_ok-fires.ensures c.bounds.invariant.whole
