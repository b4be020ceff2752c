-- By what is left of the last nogood.
use Rattle.std.proofs.Common.{◌-◌, ◌<◌, List}
use Rattle.std.proofs.Common.{length, get_or, Option, Some, None, sym, ap, ◌∙◌, subst, arith}
use Rattle.std.specs.Prelude.{IsSomeAnd}
use Rattle.std.specs.List.{All}
use Rattle.tl_problem.specs.Works.{AreAllowed}
use Rattle.tl_cert.specs.declared.log.Bound.{Bound}
use Rattle.tl_cert.specs.declared.log.Nogood.{Nogood}
use Rattle.tl_cert.specs.Implied.{Implied}
use Rattle.tl_cert.specs.Nogoods.{NamesAreThere, nogood_bounds}
use Rattle.tl_check.proofs.Deciding.{bounds_at, nogood-at, nothing-decided, image, last-map, last-get, none-last}
use Rattle.tl_check.proofs.line.last_is_implied.Goals as goal

pub returns-then-count-eq0 : goal.returns-then-count-eq0
returns-then-count-eq0 c =
    let p = c.args.problem.now in
    let trace = c.args.trace.now in
    let log = c.args.log.now in
    let line = c.args.line.now in
    let fires = line.fires in (
      λ never. absurd cc,
      λ h. absurd (none-last (bounds_at p trace log line) (All (Implied p (AreAllowed p c.args.work.now.matrix.bounds))) fires
          (omega (arith, ap length c.as_slice-fires.ensures, c.if-count-eq0.true)) h),
    )

pub left_of-requires-clause-names : goal.left_of-requires-clause-names
left_of-requires-clause-names c =
    let p = c.args.problem.now in
    let trace = c.args.trace.now in
    let log = c.args.log.now in
    let line = c.args.line.now in
    let fires = line.fires in
    let within : 0 < length fires = omega (arith, ap length c.as_slice-fires.ensures, c.if-count-eq0.false) in
    let number = get_or fires (length fires - 1) 0 in
    let named = c.requires.lines (length fires - 1) 0 (omega (arith, within)) in
    let item = c.index-log-number.result in
    let is = rw c.as_slice-fires.ensures at c.index-log-number.is in
    let nogood = nogood-at p trace log line number item named.0 is in
    subst (λ (n : Nogood). NamesAreThere p trace n) nogood named.1

pub returns : goal.returns
returns c =
    let p = c.args.problem.now in
    let trace = c.args.trace.now in
    let log = c.args.log.now in
    let line = c.args.line.now in
    let fires = line.fires in
    let within : 0 < length fires = omega (arith, ap length c.as_slice-fires.ensures, c.if-count-eq0.false) in
    let number = get_or fires (length fires - 1) 0 in
    let named = c.requires.lines (length fires - 1) 0 (omega (arith, within)) in
    let item = c.index-log-number.result in
    let is = rw c.as_slice-fires.ensures at c.index-log-number.is in
    let nogood = nogood-at p trace log line number item named.0 is in
    let Among = AreAllowed p c.args.work.now.matrix.bounds in
    let bounds = nogood_bounds p trace item.nogood in
    let last = last-map (bounds_at p trace log line) None fires ∙ ap (image (bounds_at p trace log line))
    (last-get None fires 0 within)
    ∙ ap (λ (n : Nogood). Some (nogood_bounds p trace n)) nogood in
    let decided = nothing-decided p Among bounds c.left_of.result c.left_of.ensures in
    let P : Option (List Bound) → Type 0 = λ o. IsSomeAnd o (All (Implied p Among)) in (
      λ yes. subst P (sym last) (decided.0 (c.is_nothing.ensures.0 yes)),
      λ h. c.is_nothing.ensures.1 (decided.1 (subst P last h)),
    )
