-- The zones from `above` on have lines, down to the whole.
use Rattle.std.proofs.Common.{◌≡◌, ◌+◌, ◌-◌, ◌*◌, ◌<◌, ◌≤◌, inl, inr, List, length, refl, sym, ap, ◌∙◌, subst, arith}
use Rattle.std.proofs.lemmas.Bool.{cases_lt}
use Rattle.tl_problem.proofs.ZoneLaws.{cases_eq}
use Rattle.tl_cert.specs.declared.trace.CutAt.{CutAt}
use Rattle.tl_solve.specs.declared.arena.Arena.{Arena}
use Rattle.tl_solve.specs.CutsFound.{IsCutFound}
use Rattle.tl_branch.specs.inner.Learnings.{HasLine}
use Rattle.tl_branch.proofs.Closing.{grown-next}
use Rattle.tl_branch.proofs.Ends.{ended-by, proves-grown, whole-ends}
use Rattle.tl_branch.proofs.learning.Learning.write_open.Goals.{then-zones-test+else-not-self, else-zones-test}
use Rattle.tl_branch.proofs.learning.Learning.write_open.Goals as goal

pub write_one-requires-clause-cut : goal.write_one-requires-clause-cut
write_one-requires-clause-cut c =
    let l = c.zones.self in
    let z = c.zones.above - 1 in
    let cuts = c.in_ok-cuts.cuts.items in
    let same : c.trace.result.now ≡ l.arena.trace = c.trace.ensures
    ∙ ap (λ (a : Arena). a.trace) (sym c.zones.invariant.grown.arena) in
    let within : z < length cuts = omega
    (arith, c.zones.invariant.upto, c.in_ok-cuts.ensures.count, ap length c.trace.ensures, c.zones-test.true) in
    subst (λ (t : List CutAt). IsCutFound t (length t) z c.index.result.now) same
    (subst (IsCutFound c.trace.result.now (length c.trace.result.now) z) (sym c.index.ensures)
    (c.in_ok-cuts.ensures.each z c.index.result.now within))

pub write_one-requires-clause-above : goal.write_one-requires-clause-above
write_one-requires-clause-above c = λ z past within. c.zones.invariant.written z (omega (arith, past, c.zones-test.true)) within

pub zones-preserved : goal.zones-preserved
zones-preserved c =
    let grown = c.in_ok-write_one.ensures.grown in
    let above = c.zones.above in
    record {
      learning = c.in_ok-write_one.ensures.learning;
      grown = grown-next c.args.self.now c.zones.self c.write_one.new.self c.zones.invariant.grown grown;
      proves = proves-grown c.args.problem.now c.zones.self c.write_one.new.self grown c.zones.invariant.proves;
      upto = omega (arith, c.zones.invariant.upto);
      written = λ z past within. elim (cases_eq z (above - 1)) [
        | inl same ↦ subst (HasLine c.write_one.new.self.lines.items) (sym same) c.in_ok-write_one.ensures.line
        | inr apart ↦
            let from : above ≤ z = elim (cases_lt z above) [
              | inl before ↦ absurd (apart (omega (arith, past, before)))
              | inr after ↦ after
            ] in
            grown.lines z (c.zones.invariant.written z from
            (subst (λ (a : Arena). z < 2 * length a.trace + 1) grown.arena within))
      ];
    }

pub returns-clause-done : goal.returns-clause-done
returns-clause-done c = elim c.zones-test.branch [
  | then-zones-test+else-not-self w ↦ w.if-not-self.false
  | else-zones-test w ↦ ended-by c.zones.self c.zones.self.done refl (λ going.
      whole-ends c.args.problem.now c.zones.self c.zones.invariant.learning
      (c.zones.invariant.written 0 (omega (arith, w.zones-test.false)) (omega arith)) going)
]
