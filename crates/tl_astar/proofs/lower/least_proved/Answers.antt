use Rattle.std.proofs.Common.{◌≡◌, ◌+◌, true, false, sym, ◌∙◌, subst, arith}
use Rattle.tl_solve.specs.declared.arena.Arena.{Arena}
use Rattle.tl_solve.specs.Arenas.{IsArenaOf}
use Rattle.tl_astar.specs.inner.Lower.{IsLessened, IsProvedUpto}
use Rattle.tl_astar.proofs.LowerLaws.{proved-lessened, proved-skip}
use Rattle.tl_astar.proofs.lower.least_proved.Goals.{then-stands-zone, else-stands-zone}
use Rattle.tl_astar.proofs.lower.least_proved.Goals as goal

not-both : true ≡ false → ⊥
not-both same = cc

pub lessened-least-requires-clause-arena : goal.lessened-least-requires-clause-arena
lessened-least-requires-clause-arena c = subst (IsArenaOf c.args.problem.now) (sym c.loop-zone.invariant.same) c.requires.arena

pub loop-zone-preserved : goal.loop-zone-preserved
loop-zone-preserved c =
    let p = c.args.problem.now in
    let old = c.args.arena.now in
    let trace = old.trace in
    let height = old.best.height in
    let z = c.loop-zone.zone in
    let same = c.loop-zone.invariant.same in
    let uncut = c.requires.stands.each z c.loop-zone-test.true in
    elim c.if-stands-zone.branch [
      | then-stands-zone w ↦ record {
        same = w.arena-is ∙ w.lessened-least.ensures.same ∙ same;
        least = subst (IsProvedUpto p trace height (z + 1)) (sym w.least-is)
            (proved-lessened p trace height z c.loop-zone.least w.lessened-least.result (record {
              there = omega (arith, c.requires.stands.count, c.loop-zone-test.true);
              not_cut = λ i d inside. uncut.0 w.if-stands-zone.true i d inside;
            }) c.loop-zone.invariant.least
            (subst (λ (a : Arena). IsLessened p a.trace z c.loop-zone.least w.lessened-least.result) same
            w.lessened-least.ensures.lessened));
      }
      | else-stands-zone w ↦ record {
        same = w.arena-is ∙ same;
        least = subst (IsProvedUpto p trace height (z + 1)) (sym w.least-is)
            (proved-skip p trace height z c.loop-zone.least
            (λ stands. not-both (sym (uncut.1 (λ i d inside. stands.not_cut i d inside)) ∙ w.if-stands-zone.false))
            c.loop-zone.invariant.least);
      }
    ]
