-- A bound is taken where the line is good without it; otherwise the next one is looked at.
use Rattle.std.proofs.Common.{◌≡◌, ◌<◌, true, false, length, sym, ◌∙◌, subst, arith}
use Rattle.std.specs.List.{remove}
use Rattle.std.proofs.lemmas.List.Edits.{length-remove}
use Rattle.tl_cert.specs.declared.log.LogLine.{LogLine}
use Rattle.tl_cert.specs.Lines.{IsGoodLine}
use Rattle.tl_cert.specs.Learnt.{with_bounds}
use Rattle.tl_store.proofs.Trials.{lessened-remove, none-next}
use Rattle.tl_store.proofs.shrinking.pass.Goals.{then-tries, else-tries}
use Rattle.tl_store.proofs.shrinking.pass.Goals as goal

pub places-preserved : goal.places-preserved
places-preserved c =
    let p = c.args.problem.now in
    let trace = c.args.trace.now in
    let log = c.args.log.now in
    let line = c.args.line.now in
    let left = c.places.left.items in
    let place = c.places.place in
    let inv = c.places.invariant in
    let within : place < length left = omega (arith, c.places-test.true, c.len.ensures, c.places.left.ok) in
    let trial : c.in_ok-trial.trial ≡ with_bounds line (remove left place) = rw c.deref.ensures.value at c.in_ok-trial.ensures in
    let lower = c.args.lower in
    elim c.if-tries.branch [
      | then-tries w ↦
          let good = subst (λ (l : LogLine). IsGoodLine p trace log lower (length log) l) trial
          (c.tries.ensures.good.0 w.if-tries.true) in
          let shorter = length-remove left place within in
          rw (w.left-is, w.taken-is, w.place-is, w.remove.ensures.items) (record {
            lessened = lessened-remove p trace log lower line left place within inv.lessened good;
            there = omega (arith, shorter, within);
            no_more = omega (arith, shorter, inv.no_more);
            fewer = λ taken. omega (arith, shorter, inv.no_more);
            none = λ never. absurd cc;
            reserved = c.tries.ensures.stays (length trace) inv.reserved;
            stays = λ cuts reserved. c.tries.ensures.stays cuts (inv.stays cuts reserved);
          })
      | else-tries w ↦ rw (w.left-is, w.taken-is, w.place-is) (record {
        lessened = inv.lessened;
        there = omega (arith, within);
        no_more = inv.no_more;
        fewer = inv.fewer;
        none = λ same. none-next p trace log lower line left place (inv.none same) (λ good.
            let yes = c.tries.ensures.good.1 (subst (λ (l : LogLine). IsGoodLine p trace log lower (length log) l) (sym trial)
            good) in
            let differ : true ≡ false = sym yes ∙ w.if-tries.false in
            cc);
        reserved = c.tries.ensures.stays (length trace) inv.reserved;
        stays = λ cuts reserved. c.tries.ensures.stays cuts (inv.stays cuts reserved);
      })
    ]
