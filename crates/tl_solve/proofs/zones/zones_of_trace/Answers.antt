-- Each cut adds its two parts to the zones.
use Rattle.std.proofs.Common.{◌≡◌, ◌+◌, ◌<◌, ◌++◌, ◌∷◌, [], length, get_or, take, sym, ap, ◌∙◌, subst, arith}
use Rattle.std.proofs.lemmas.List.{get_or_default}
use Rattle.tl_problem.specs.Zones.{whole_zone, lower_part, upper_part}
use Rattle.tl_cert.specs.declared.trace.CutAt.{CutAt}
use Rattle.tl_cert.specs.Traces.{zones_of, IsTraceOf}
use Rattle.tl_solve.proofs.ZoneLists.{zones-count, zones-more}
use Rattle.tl_solve.proofs.zones.zones_of_trace.Goals as goal

pub loop-number-preserved : goal.loop-number-preserved
loop-number-preserved c =
    let d : CutAt = record { zone = 0; span = 0; class = 0 } in
    let whole = whole_zone c.args.problem.now in
    let cuts = c.as_slice-cuts.result.now in
    let n = c.loop-number.number in
    let zones = c.loop-number.zones.items in
    let trace = c.args.trace.now in
    let item = c.index.result.now in
    let same : cuts ≡ trace = c.as_slice-cuts.ensures in
    let within : n < length cuts = c.loop-number-test.true in
    let before : zones ≡ zones_of whole (take n cuts) = c.loop-number.invariant ∙ ap (λ t. zones_of whole (take n t))
    (sym same) in
    let stands = (subst (IsTraceOf c.args.problem.now) (sym same) c.requires.trace_of n d within).stands.there in
    let count = zones-count whole (take n cuts) zones before in
    let at : item ≡ get_or zones (get_or cuts n d).zone item = c.index.ensures in
    let is = at ∙ get_or_default zones (get_or cuts n d).zone item [] (omega (arith, stands, count)) in
    let low : c.in_ok-lower.lower ≡ lower_part item (get_or cuts n d).span (get_or cuts n d).class =
    c.in_ok-lower.ensures.lower in
    let high : c.in_ok-lower.upper ≡ upper_part item (get_or cuts n d).span (get_or cuts n d).class =
    c.in_ok-lower.ensures.upper in
    let first : c.push-in-loop-number.new.self.items ≡ zones ++ c.in_ok-lower.lower ∷ [] = c.in_ok-push-2.ensures.items in
    let second : c.push-in-loop-number-2.new.self.items ≡ c.push-in-loop-number.new.self.items ++ c.in_ok-lower.upper ∷ [] =
    c.in_ok-push-3.ensures.items in
    second ∙ ap (λ zs. zs ++ c.in_ok-lower.upper ∷ []) first
    ∙ zones-more whole cuts n d zones item c.in_ok-lower.lower c.in_ok-lower.upper before within is low high
    ∙ ap (λ t. zones_of whole (take (n + 1) t)) same
