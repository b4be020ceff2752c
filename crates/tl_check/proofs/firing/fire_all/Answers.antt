-- Fire by fire.
use Rattle.std.proofs.Common.{ℕ, ◌+◌, ◌<◌, List, []}
use Rattle.std.proofs.Common.{length, take, map, ap, ◌∙◌, subst, arith}
use Rattle.std.proofs.lemmas.List.{take_all}
use Rattle.tl_cert.specs.declared.log.Bound.{Bound}
use Rattle.tl_cert.specs.Nogoods.{nogood_bounds}
use Rattle.tl_check.specs.inner.Firing.{LeadsTo, NeverFires}
use Rattle.tl_check.proofs.Deciding.{bounds_at, fired-next, never-all}
use Rattle.tl_check.proofs.firing.fire_all.Goals as goal

pub returns-then-not-fire-clause-no : goal.returns-then-not-fire-clause-no
returns-then-not-fire-clause-no c =
    let p = c.args.problem.now in
    let trace = c.args.trace.now in
    let log = c.args.log.now in
    let line = c.args.line.now in
    let given = nogood_bounds p trace line.nogood in
    let i = c.fires.number-index in
    let within : i < length line.fires = omega (arith, c.fires-test.true, ap length c.as_slice-fires.ensures) in
    let item = c.index-log-number.result in
    let is = rw c.as_slice-fires.ensures at c.index-log-number.is in
    let next = fired-next p trace log line i item within (c.requires.lines i 0 within).0 is in
    let never = c.fire.ensures.no c.if-not-fire.true given (map (bounds_at p trace log line) (take i line.fires))
    [] c.fires.invariant.leads in
    λ no. never-all p trace log line given (i + 1) (subst (λ (l : List (List Bound)). NeverFires p given l) next never)

pub fires-preserved : goal.fires-preserved
fires-preserved c =
    let p = c.args.problem.now in
    let trace = c.args.trace.now in
    let log = c.args.log.now in
    let line = c.args.line.now in
    let given = nogood_bounds p trace line.nogood in
    let i = c.fires.number-index in
    let within : i < length line.fires = omega (arith, c.fires-test.true, ap length c.as_slice-fires.ensures) in
    let item = c.index-log-number.result in
    let is = rw c.as_slice-fires.ensures at c.index-log-number.is in
    let next = fired-next p trace log line i item within (c.requires.lines i 0 within).0 is in
    let leads = c.fire.ensures.yes c.if-not-fire.false given (map (bounds_at p trace log line) (take i line.fires))
    c.fires.invariant.leads in
    record {
      leads = subst (λ (l : List (List Bound)). LeadsTo p given l c.fire.new.matrix.bounds) next leads;
      marks = record {
        marks = c.fire.ensures.marks.marks ∙ c.fires.invariant.marks.marks;
        held = c.fire.ensures.marks.held ∙ c.fires.invariant.marks.held;
      };
    }

pub returns-clause-yes : goal.returns-clause-yes
returns-clause-yes c =
    let p = c.args.problem.now in
    let trace = c.args.trace.now in
    let log = c.args.log.now in
    let line = c.args.line.now in
    let given = nogood_bounds p trace line.nogood in
    let i = c.fires.number-index in
    let all = take_all i line.fires (omega (arith, c.fires-test.false, ap length c.as_slice-fires.ensures)) in
    λ yes. subst (λ (fs : List ℕ). LeadsTo p given (map (bounds_at p trace log line) fs) c.fires.matrix.bounds)
    all c.fires.invariant.leads
