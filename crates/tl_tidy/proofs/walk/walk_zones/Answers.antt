-- The zones that are left go on by what a look at the next one finds.
use Rattle.std.proofs.Common.{◌+◌, ◌++◌, ◌∷◌, [], List, inl, inr, reverse, sym, ap, ap₂, ◌∙◌, subst, arith}
use Rattle.std.proofs.lemmas.Bool.{cases_lt}
use Rattle.tl_base.proofs.Options.{match-none}
use Rattle.tl_problem.specs.declared.zone.Range.{Range}
use Rattle.tl_tidy.specs.inner.Walk.{IsLeft}
use Rattle.tl_tidy.proofs.NeedLaws.{quota-below}
use Rattle.tl_tidy.proofs.WalkLaws.{one-holds, left-start, left-high, left-cut, left-above, left-within, left-chosen}
use Rattle.tl_tidy.proofs.WalkLaws.{next-first, both-first, left-end}
use Rattle.tl_tidy.proofs.walk.walk_zones.Goals as goal
use Rattle.tl_tidy.proofs.walk.walk_zones.Goals.{in-TooHigh, in-Cut+else-cuts-quota+in_ok-lower-in-Cut+in_ok-push-in-Cut+in_ok-push-in-Cut-2}

pub loop-zone-init : goal.loop-zone-init
loop-zone-init c =
    let p = c.args.problem.now in
    record {
      work = c.requires.work;
      within = omega arith;
      left = subst (IsLeft p c.args.height 0) (sym (ap reverse c.requires.whole))
          (left-start p c.requires.work.sound c.args.height);
    }

pub look_at-requires-clause-zone : goal.look_at-requires-clause-zone
look_at-requires-clause-zone c =
    let first = next-first c.loop-zone.stack.items c.pop.new.self.items c.in-Some.zone c.in-Some.ensures.items in
    (subst (IsLeft c.args.problem.now c.args.height c.loop-zone.cuts) first c.loop-zone.invariant.left).are.0

pub returns-in-OneClass-clause-found : goal.returns-in-OneClass-clause-found
returns-in-OneClass-clause-found c =
    let p = c.args.problem.now in
    let sound = c.loop-zone.invariant.work.sound in
    let zone = c.in-Some.zone in
    let first = next-first c.loop-zone.stack.items c.pop.new.self.items zone c.in-Some.ensures.items in
    let left = subst (IsLeft p c.args.height c.loop-zone.cuts) first c.loop-zone.invariant.left in
    let looks = c.in-OneClass.ensures.looks in
    left-chosen p sound c.args.height c.loop-zone.cuts zone (reverse c.pop.new.self.items) left looks.1
    (one-holds p sound c.requires.agree c.args.height zone left.are.0 looks.1 looks.0)
    c.in_ok-placed-in-OneClass.placed c.in_ok-placed-in-OneClass.ensures.tight

pub returns-in-OneClass-clause-enough : goal.returns-in-OneClass-clause-enough
returns-in-OneClass-clause-enough c =
    let p = c.args.problem.now in
    let sound = c.loop-zone.invariant.work.sound in
    let zone = c.in-Some.zone in
    let first = next-first c.loop-zone.stack.items c.pop.new.self.items zone c.in-Some.ensures.items in
    let left = subst (IsLeft p c.args.height c.loop-zone.cuts) first c.loop-zone.invariant.left in
    let looks = c.in-OneClass.ensures.looks in
    left-within p sound c.args.height c.loop-zone.cuts zone (reverse c.pop.new.self.items) left looks.1
    (one-holds p sound c.requires.agree c.args.height zone left.are.0 looks.1 looks.0)
    c.args.quota c.loop-zone.invariant.within

pub returns-then-cuts-quota-clause-above : goal.returns-then-cuts-quota-clause-above
returns-then-cuts-quota-clause-above c =
    let p = c.args.problem.now in
    let zone = c.in-Some.zone in
    let first = next-first c.loop-zone.stack.items c.pop.new.self.items zone c.in-Some.ensures.items in
    let left = subst (IsLeft p c.args.height c.loop-zone.cuts) first c.loop-zone.invariant.left in
    let looks = c.in-Cut.ensures.looks in
    let above = left-above p c.loop-zone.invariant.work.sound c.args.height c.loop-zone.cuts zone
    (reverse c.pop.new.self.items) left c.in-Cut.span looks.1 looks.0 in
    (above.0, above.1, omega (arith, above.2, c.if-cuts-quota.true))

pub returns-then-cuts-quota-clause-count : goal.returns-then-cuts-quota-clause-count
returns-then-cuts-quota-clause-count c =
    let p = c.args.problem.now in
    let sound = c.loop-zone.invariant.work.sound in
    let zone = c.in-Some.zone in
    let first = next-first c.loop-zone.stack.items c.pop.new.self.items zone c.in-Some.ensures.items in
    let left = subst (IsLeft p c.args.height c.loop-zone.cuts) first c.loop-zone.invariant.left in
    let looks = c.in-Cut.ensures.looks in
    let above = left-above p sound c.args.height c.loop-zone.cuts zone (reverse c.pop.new.self.items) left c.in-Cut.span
    looks.1 looks.0 in
    quota-below p sound c.args.height c.args.quota above.0 above.1 (omega (arith, above.2, c.if-cuts-quota.true))
    (omega (arith, c.ranges.quota.fits))

pub loop-zone-preserved : goal.loop-zone-preserved
loop-zone-preserved c =
    let p = c.args.problem.now in
    let sound = c.loop-zone.invariant.work.sound in
    let zone = c.in-Some.zone in
    let rest = c.pop.new.self.items in
    let first = next-first c.loop-zone.stack.items rest zone c.in-Some.ensures.items in
    let left = subst (IsLeft p c.args.height c.loop-zone.cuts) first c.loop-zone.invariant.left in
    elim c.match-look_at.branch [
      | in-TooHigh w ↦
          let items = ap (λ stack. stack.items) w.stack-is in
          let high = left-high p sound c.args.height c.loop-zone.cuts zone (reverse rest) left w.in-TooHigh.ensures.looks in
          record {
            work = c.look_at.ensures.work;
            within = omega (arith, w.cuts-is, c.loop-zone.invariant.within);
            left = subst (λ cuts. IsLeft p c.args.height cuts (reverse c.match-look_at.stack.items)) (sym w.cuts-is)
                (subst (λ zones. IsLeft p c.args.height c.loop-zone.cuts (reverse zones)) (sym items) high);
          }
      | in-Cut+else-cuts-quota+in_ok-lower-in-Cut+in_ok-push-in-Cut+in_ok-push-in-Cut-2 w ↦
          let span = w.in-Cut.span in
          let looks = w.in-Cut.ensures.looks in
          let lower = w.in_ok-lower-in-Cut.lower in
          let upper = w.in_ok-lower-in-Cut.upper in
          let parts = left-cut p sound c.args.height c.loop-zone.cuts zone (reverse rest) left span looks.1 looks.0 in
          let items = ap (λ stack. stack.items) w.stack-is ∙ w.in_ok-push-in-Cut-2.ensures.items ∙ ap
          (λ zones. zones ++ lower ∷ []) w.in_ok-push-in-Cut.ensures.items in
          let reversed = both-first c.match-look_at.stack.items rest upper lower items in
          let zones = reversed ∙ ap₂ (λ (first second : List Range). first ∷ second ∷ reverse rest)
          w.in_ok-lower-in-Cut.ensures.lower w.in_ok-lower-in-Cut.ensures.upper in
          record {
            work = c.look_at.ensures.work;
            within = elim (cases_lt c.loop-zone.cuts c.args.quota) [
              | inl less ↦ omega (arith, less, w.cuts-is)
              | inr more ↦ absurd (w.if-cuts-quota.false (omega (arith, more, c.loop-zone.invariant.within)))
            ];
            left = subst (λ cuts. IsLeft p c.args.height cuts (reverse c.match-look_at.stack.items)) (sym w.cuts-is)
                (subst (IsLeft p c.args.height (c.loop-zone.cuts + 1)) (sym zones) parts);
          }
    ]

-- no zone is left, though some layout is low enough
pub returns-clause-above : goal.returns-clause-above
returns-clause-above c =
    let empty = match-none c.pop.result _ _ c.pop.ensures.cases c.in_default.not-Some in
    absurd (left-end c.args.problem.now c.loop-zone.invariant.work.sound c.args.height c.loop-zone.cuts c.loop-zone.stack.items
    (omega (arith, empty.0, c.loop-zone.stack.ok)) c.loop-zone.invariant.left c.requires.some)

pub returns-clause-count : goal.returns-clause-count
returns-clause-count c =
    let empty = match-none c.pop.result _ _ c.pop.ensures.cases c.in_default.not-Some in
    absurd (left-end c.args.problem.now c.loop-zone.invariant.work.sound c.args.height c.loop-zone.cuts c.loop-zone.stack.items
    (omega (arith, empty.0, c.loop-zone.stack.ok)) c.loop-zone.invariant.left c.requires.some)
