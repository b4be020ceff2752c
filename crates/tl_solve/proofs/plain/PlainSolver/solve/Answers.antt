-- The stack and the order of the cuts go on by what the arena ensures.
use Rattle.std.proofs.Common.{◌≡◌, ◌+◌, ◌*◌, ◌++◌, ◌∷◌, [], length, inl, inr, sym, ap, ◌∙◌, subst, arith, length-append}
use Rattle.std.proofs.lemmas.Bool.{cases_lt}
use Rattle.tl_base.proofs.Options.{match-none}
use Rattle.tl_cert.specs.Traces.{zone_of}
use Rattle.tl_cert.specs.Worked.{IsClosedZone}
use Rattle.tl_solve.specs.inner.Walk.{IsStack, KeepsClassOrder}
use Rattle.tl_solve.proofs.ArenaLaws.{arena-keen, arena-zone, lowered-le}
use Rattle.tl_solve.proofs.WalkLaws.{top-stands, stack-start, order-start, stack-closed, stack-cut, order-cut, stack-end}
use Rattle.tl_solve.proofs.WalkLaws.{first-is_cut, plain-ends}
use Rattle.tl_solve.proofs.WalkLaws.{plain-outcome}
use Rattle.tl_solve.proofs.plain.PlainSolver.solve.Goals as goal

pub loop-zone-init : goal.loop-zone-init
loop-zone-init g c =
    let none = c.in_ok-arena.ensures.no_cut in
    record {
      arena = c.in_ok-arena.ensures.arena;
      within = omega (arith, ap length none);
      on_stack = stack-start c.args.problem.now c.in_ok-arena.arena.best.height c.in_ok-arena.arena.trace c.push.new.self.items
          none
          (c.in_ok-push.ensures.items ∙ ap (λ zs. zs ++ 0 ∷ []) c.new-stack.ensures.items);
      order = order-start c.args.problem.now c.in_ok-arena.arena.trace none;
    }

pub first_cut-requires-clause-there : goal.first_cut-requires-clause-there
first_cut-requires-clause-there g c =
    let p = c.args.problem.now in
    let arena = c.loop-zone.arena in
    let on = subst (IsStack p arena.trace arena.best.height) c.in-Some.ensures.items c.loop-zone.invariant.on_stack in
    (top-stands p arena.trace arena.best.height c.pop.new.self.items c.in-Some.zone on).there

pub cut-requires-clause-cut : goal.cut-requires-clause-cut
cut-requires-clause-cut g c =
    let p = c.args.problem.now in
    let arena = c.loop-zone.arena in
    let z = c.in-Some.zone in
    let on = subst (IsStack p arena.trace arena.best.height) c.in-Some.ensures.items c.loop-zone.invariant.on_stack in
    let stands = top-stands p arena.trace arena.best.height c.pop.new.self.items z on in
    first-is_cut p arena.trace z c.in-Some-first_cut.cut stands (arena-zone p arena c.loop-zone.invariant.arena z stands.there)
    c.in-Some-first_cut.ensures.first c.in-Some-first_cut.ensures.zone

-- the zone on top was closed
pub loop-zone-preserved : goal.loop-zone-preserved
loop-zone-preserved g c =
    let p = c.args.problem.now in
    let arena = c.loop-zone.arena in
    let z = c.in-Some.zone in
    let on = subst (IsStack p arena.trace arena.best.height) c.in-Some.ensures.items c.loop-zone.invariant.on_stack in
    let closed = match-none c.first_cut.result (IsClosedZone p (zone_of p arena.trace z) arena.best.height) (λ _. Unit {0})
    c.first_cut.ensures.closed
    c.in_default-first_cut.not-Some in
    record {
      arena = c.loop-zone.invariant.arena;
      within = c.loop-zone.invariant.within;
      on_stack = stack-closed p arena.trace arena.best.height c.pop.new.self.items z on closed;
      order = c.loop-zone.invariant.order;
    }

-- its parts take its place
pub loop-zone-preserved-in-Continue-branch-5 : goal.loop-zone-preserved-in-Continue-branch-5
loop-zone-preserved-in-Continue-branch-5 g c =
    let p = c.args.problem.now in
    let arena = c.loop-zone.arena in
    let is = c.loop-zone.invariant.arena in
    let trace = arena.trace in
    let height = arena.best.height in
    let best = c.cut.new.self.best.height in
    let stack = c.pop.new.self.items in
    let made = c.cuts-made.result in
    let z = c.in-Some.zone in
    let cut = c.in-Some-first_cut.cut in
    let top = c.in-Some-first_cut.ensures.zone in
    let first = c.in-Some-first_cut.ensures.first in
    let on = subst (IsStack p trace height) c.in-Some.ensures.items c.loop-zone.invariant.on_stack in
    let stands = top-stands p trace height stack z on in
    let now = first-is_cut p trace z cut stands (arena-zone p arena is z stands.there) first top in
    let longer : c.cut.new.self.trace ≡ trace ++ cut ∷ [] = c.in_ok-cut.ensures.trace in
    let items : c.push-in-Some-first_cut-2.new.self.items ≡ (stack ++ (2 * made + 2) ∷ []) ++ (2 * made + 1) ∷ [] =
    c.in_ok-push-3.ensures.items ∙ ap (λ s. s ++ (2 * made + 1) ∷ []) c.in_ok-push-2.ensures.items in
    let numbered : c.push-in-Some-first_cut-2.new.self.items ≡ (stack ++ (2 * length trace + 2) ∷ []) ++
    (2 * length trace + 1) ∷ [] =
    items ∙ ap (λ n. (stack ++ (2 * n + 2) ∷ []) ++ (2 * n + 1) ∷ []) c.cuts-made.ensures in
    let parts = stack-cut p trace height stack z on cut top is.trace_of now best
    (lowered-le arena.best c.cut.new.self.best c.in_ok-cut.ensures.lowered) in
    let kept = order-cut p trace height stack z on cut top is.trace_of now height c.loop-zone.invariant.order first
    c.in-Some-first_cut.ensures.below
    (arena-keen p is.work.sound arena is) in
    let count = ap length longer ∙ length-append trace (cut ∷ []) in
    record {
      arena = c.in_ok-cut.ensures.arena;
      within = elim (cases_lt made c.args.budget) [
        | inl less ↦ omega (arith, less, count, c.cuts-made.ensures)
        | inr more ↦ absurd (c.if-made-budget.false (omega (arith, more, c.cuts-made.ensures, c.loop-zone.invariant.within)))
      ];
      on_stack = subst (λ t. IsStack p t best c.push-in-Some-first_cut-2.new.self.items) (sym longer)
          (subst (IsStack p (trace ++ cut ∷ []) best) (sym numbered) parts);
      order = subst (KeepsClassOrder p) (sym longer) kept;
    }

pub finish-requires-2-clause-ended : goal.finish-requires-2-clause-ended
finish-requires-2-clause-ended g c =
    let empty = match-none c.pop.result _ _ c.pop.ensures.cases c.in_default.not-Some in
    let none : length c.loop-zone.stack.items ≡ 0 = omega (arith, empty.0, c.loop-zone.stack.ok) in
    inr (stack-end c.args.problem.now c.loop-zone.arena.trace c.loop-zone.arena.best.height c.loop-zone.stack.items none
    c.loop-zone.invariant.on_stack)

pub returns-then-made-budget-clause-besides : goal.returns-then-made-budget-clause-besides
returns-then-made-budget-clause-besides g c =
    plain-ends c.args.problem.now c.loop-zone.arena c.loop-zone.invariant.arena c.loop-zone.invariant.order c.finish.result
    c.finish.ensures.best
    c.finish.ensures.trace c.finish.ensures.lines

pub returns-clause-besides : goal.returns-clause-besides
returns-clause-besides g c =
    plain-outcome c.args.problem.now c.loop-zone.arena c.loop-zone.invariant.arena c.loop-zone.invariant.order c.in_ok-found.found
    c.in_ok-found.ensures.best c.in_ok-found.ensures.trace c.in_ok-found.ensures.lines
