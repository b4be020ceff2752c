use Rattle.std.proofs.Common.{◌≡◌, ◌+◌, ◌<◌, ◌++◌, ◌∷◌, [], ℕ, List, Option, length, get_or, sym, ap, subst, arith, length-append}
use Rattle.tl_problem.specs.Zones.{whole_zone, IsZone}
use Rattle.tl_cert.specs.Traces.{zone_of}
use Rattle.tl_cert.proofs.TraceLaws.{zones-are}
use Rattle.tl_solve.specs.Arenas.{IsBoundFound}
use Rattle.tl_solve.proofs.ZoneLists.{zones-count, zone-item, found-more}
use Rattle.tl_solve.proofs.zones.bounds_of_trace.Goals as goal

pub bound_of-bound-requires-clause-zone : goal.bound_of-bound-requires-clause-zone
bound_of-bound-requires-clause-zone c =
    let p = c.args.problem.now in
    let trace = c.args.trace.now in
    let n = c.loop-number.number in
    let same = zone-item p trace c.args.zones.now n c.index-zones-number.result c.requires.zones c.loop-number-test.true
    c.index-zones-number.is in
    let count = zones-count (whole_zone p) trace c.args.zones.now c.requires.zones in
    subst (IsZone p) (sym same) (zones-are p c.requires.sound trace c.requires.trace_of n
    (omega (arith, c.loop-number-test.true, count)))

pub loop-number-preserved : goal.loop-number-preserved
loop-number-preserved c =
    let p = c.args.problem.now in
    let trace = c.args.trace.now in
    let n = c.loop-number.number in
    let items = c.loop-number.bounds.items in
    let bound = c.bound_of-bound.result in
    let pushed : c.push.new.self.items ≡ items ++ bound ∷ [] = c.in_ok-push.ensures.items in
    let same = zone-item p trace c.args.zones.now n c.index-zones-number.result c.requires.zones c.loop-number-test.true
    c.index-zones-number.is in
    let found : IsBoundFound p (zone_of p trace n) bound = subst (λ zone. IsBoundFound p zone bound)
    same c.bound_of-bound.ensures.bound in
    let all = found-more p trace items n bound c.loop-number.invariant.count c.loop-number.invariant.each found in
    record {
      work = c.bound_of-bound.ensures.work_of;
      count = omega (arith, ap length pushed, length-append items (bound ∷ []), c.loop-number.invariant.count);
      each = subst (λ (list : List (Option ℕ)). (z : ℕ) (d : Option ℕ) → z < n + 1 →
          IsBoundFound p (zone_of p trace z) (get_or list z d)) (sym pushed) all;
    }

pub returns : goal.returns
returns c =
    let count = zones-count (whole_zone c.args.problem.now) c.args.trace.now c.args.zones.now c.requires.zones in
    record {
      count = omega (arith, c.loop-number.invariant.count, c.loop-number-test.false, count);
      each = λ z d within. c.loop-number.invariant.each z d (omega (arith, within, c.loop-number.invariant.count));
    }
