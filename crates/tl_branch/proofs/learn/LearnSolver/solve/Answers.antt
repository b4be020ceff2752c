-- The stack goes on as zones are closed and cut.
use Rattle.std.proofs.Common.{◌≡◌, ℕ, ◌+◌, ◌*◌, inl, inr, List, [], ◌∷◌, ◌++◌, length, sym, ap, ◌∙◌, subst, arith}
use Rattle.tl_base.proofs.Members.{Contains-push}
use Rattle.tl_base.proofs.Options.{match-none}
use Rattle.tl_problem.specs.Problem.{ProblemModel}
use Rattle.tl_problem.specs.Zones.{whole_zone}
use Rattle.tl_cert.specs.declared.trace.CutAt.{CutAt}
use Rattle.tl_cert.specs.Traces.{Stands, zone_of, IsCut}
use Rattle.tl_solve.specs.Orders.{IsFirstCut}
use Rattle.tl_solve.proofs.ArenaLaws.{arena-zone}
use Rattle.tl_solve.proofs.WalkLaws.{top-stands, first-is_cut}
use Rattle.tl_branch.specs.declared.learning.Learning.{Learning}
use Rattle.tl_branch.specs.inner.Learnings.{IsSearching}
use Rattle.tl_branch.proofs.Walk.{search-start, search-same, search-closed, search-cut, handled-shut, top-stopped, top-unclosed}
use Rattle.tl_branch.proofs.Closing.{grown-same}
use Rattle.tl_branch.proofs.learn.LearnSolver.solve.Goals as goal

searching-stands : (problem : ProblemModel) (l : Learning) (stack : List ℕ) (z : ℕ) → IsSearching problem l (stack ++ z ∷ []) →
    Stands l.arena.trace z
searching-stands problem l stack z is = top-stands problem l.arena.trace 0 stack z is.walk

searching-cut : (problem : ProblemModel) (l : Learning) (stack : List ℕ) (z : ℕ) → IsSearching problem l (stack ++ z ∷ []) →
    (cut : CutAt) → IsFirstCut (zone_of problem l.arena.trace z) cut → cut.zone ≡ z →
    IsCut (whole_zone problem) l.arena.trace cut
searching-cut problem l stack z is cut first top =
    let stands = searching-stands problem l stack z is in
    first-is_cut problem l.arena.trace z cut stands (arena-zone problem l.arena is.learning.arena z stands.there) first top

pub loop-zone-init : goal.loop-zone-init
loop-zone-init g c = record {
  searching = search-start c.args.problem.now c.args.budget c.in_ok-learning.learning c.in_ok-learning.ensures.learning
      c.in_ok-learning.ensures.start c.push.new.self.items
      (c.in_ok-push.ensures.items ∙ ap (λ (zs : List ℕ). zs ++ 0 ∷ []) c.new-stack.ensures.items);
  budget = c.in_ok-learning.ensures.start.budget_is;
}

pub close-requires-clause-stands : goal.close-requires-clause-stands
close-requires-clause-stands g c =
    let p = c.args.problem.now in
    let l = c.loop-zone.learning in
    searching-stands p l c.pop.new.self.items c.in-Some.zone
    (subst (IsSearching p l) c.in-Some.ensures.items c.loop-zone.invariant.searching)

pub loop-zone-preserved-else-learning : goal.loop-zone-preserved-else-learning
loop-zone-preserved-else-learning g c =
    let p = c.args.problem.now in
    let l = c.loop-zone.learning in
    let mid = c.close.new.self in
    let stack = c.pop.new.self.items in
    let z = c.in-Some.zone in
    let is = subst (IsSearching p l) c.in-Some.ensures.items c.loop-zone.invariant.searching in
    let grown = c.in_ok-close.ensures.grown in
    record {
      searching = search-closed p l mid stack z is grown c.in_ok-close.ensures.alone c.in_ok-close.ensures.learning
          c.if-learning.false (c.in_ok-close.ensures.closed c.if-branch.true) (c.in_ok-close.ensures.joined c.if-learning.false);
      budget = grown.budget ∙ c.loop-zone.invariant.budget;
    }

pub first_cut-requires-clause-there : goal.first_cut-requires-clause-there
first_cut-requires-clause-there g c =
    let p = c.args.problem.now in
    let l = c.loop-zone.learning in
    let mid = c.close.new.self in
    let stack = c.pop.new.self.items in
    let z = c.in-Some.zone in
    let is = subst (IsSearching p l) c.in-Some.ensures.items c.loop-zone.invariant.searching in
    let going = c.in_ok-close.ensures.going c.if-branch.false in
    (searching-stands p mid stack z
    (search-same p l mid (stack ++ z ∷ []) is c.in_ok-close.ensures.learning c.in_ok-close.ensures.grown going
    (c.in_ok-close.ensures.none c.if-branch.false))).there

pub cut-requires-clause-cut : goal.cut-requires-clause-cut
cut-requires-clause-cut g c =
    let p = c.args.problem.now in
    let l = c.loop-zone.learning in
    let mid = c.close.new.self in
    let stack = c.pop.new.self.items in
    let z = c.in-Some.zone in
    let is = subst (IsSearching p l) c.in-Some.ensures.items c.loop-zone.invariant.searching in
    let going = c.in_ok-close.ensures.going c.if-branch.false in
    searching-cut p mid stack z
    (search-same p l mid (stack ++ z ∷ []) is c.in_ok-close.ensures.learning c.in_ok-close.ensures.grown going
    (c.in_ok-close.ensures.none c.if-branch.false))
    c.in-Some-first_cut.cut c.in-Some-first_cut.ensures.first c.in-Some-first_cut.ensures.zone

pub cut-requires-clause-going : goal.cut-requires-clause-going
cut-requires-clause-going g c = c.in_ok-close.ensures.going c.if-branch.false

pub cut-requires-clause-unclosed : goal.cut-requires-clause-unclosed
cut-requires-clause-unclosed g c =
    let p = c.args.problem.now in
    let l = c.loop-zone.learning in
    let mid = c.close.new.self in
    let stack = c.pop.new.self.items in
    let z = c.in-Some.zone in
    let is = subst (IsSearching p l) c.in-Some.ensures.items c.loop-zone.invariant.searching in
    let going = c.in_ok-close.ensures.going c.if-branch.false in
    top-unclosed p mid stack z
    (search-same p l mid (stack ++ z ∷ []) is c.in_ok-close.ensures.learning c.in_ok-close.ensures.grown going
    (c.in_ok-close.ensures.none c.if-branch.false))
    c.in-Some-first_cut.cut c.in-Some-first_cut.ensures.zone (c.in_ok-close.ensures.open c.if-branch.false)

-- its parts take its place
pub loop-zone-preserved-in-Continue-branch-6 : goal.loop-zone-preserved-in-Continue-branch-6
loop-zone-preserved-in-Continue-branch-6 g c =
    let p = c.args.problem.now in
    let l = c.loop-zone.learning in
    let mid = c.close.new.self in
    let stack = c.pop.new.self.items in
    let z = c.in-Some.zone in
    let made = c.cuts-made.result in
    let cut = c.in-Some-first_cut.cut in
    let first = c.in-Some-first_cut.ensures.first in
    let top = c.in-Some-first_cut.ensures.zone in
    let was = subst (IsSearching p l) c.in-Some.ensures.items c.loop-zone.invariant.searching in
    let going = c.in_ok-close.ensures.going c.if-branch.false in
    let is = search-same p l mid (stack ++ z ∷ []) was c.in_ok-close.ensures.learning c.in_ok-close.ensures.grown going
    (c.in_ok-close.ensures.none c.if-branch.false) in
    let off = c.in_ok-cut.ensures.cut in
    let items : c.push-in-Some-first_cut-2.new.self.items ≡ (stack ++ (2 * made + 2) ∷ []) ++ (2 * made + 1) ∷ [] =
    c.in_ok-push-3.ensures.items ∙ ap (λ (s : List ℕ). s ++ (2 * made + 1) ∷ []) c.in_ok-push-2.ensures.items in
    let numbered : c.push-in-Some-first_cut-2.new.self.items ≡ (stack ++ (2 * length mid.arena.trace + 2) ∷ []) ++
    (2 * length mid.arena.trace + 1) ∷ [] =
    items ∙ ap (λ (n : ℕ). (stack ++ (2 * n + 2) ∷ []) ++ (2 * n + 1) ∷ []) c.cuts-made.ensures in
    record {
      searching = subst (IsSearching p c.cut.new.self) (sym numbered) (search-cut p mid stack z is cut top
          (searching-cut p mid stack z is cut first top) first c.in-Some-first_cut.ensures.below c.cut.new.self off
          c.in_ok-cut.ensures.learning);
      budget = off.budget ∙ c.in_ok-close.ensures.grown.budget ∙ c.loop-zone.invariant.budget;
    }

-- it has one class, where `low` is unlike `high`
pub loop-zone-preserved : goal.loop-zone-preserved
loop-zone-preserved g c =
    let p = c.args.problem.now in
    let l = c.loop-zone.learning in
    let mid = c.close.new.self in
    let stack = c.pop.new.self.items in
    let z = c.in-Some.zone in
    let was = subst (IsSearching p l) c.in-Some.ensures.items c.loop-zone.invariant.searching in
    let going = c.in_ok-close.ensures.going c.if-branch.false in
    let is = search-same p l mid (stack ++ z ∷ []) was c.in_ok-close.ensures.learning c.in_ok-close.ensures.grown going
    (c.in_ok-close.ensures.none c.if-branch.false) in
    record {
      searching = search-closed p mid mid stack z is (grown-same mid) (λ y stands apart has. has) is.learning is.going
          (handled-shut p mid is.learning is.height z (searching-stands p mid stack z is).there
          (is.unlined z (Contains-push stack z)) (c.in_ok-close.ensures.open c.if-branch.false)
          c.in_default-first_cut.ensures.closed) is.joined;
      budget = c.in_ok-close.ensures.grown.budget ∙ c.loop-zone.invariant.budget;
    }

-- the budget is spent
pub finish-requires-then-made-budget-clause-ended : goal.finish-requires-then-made-budget-clause-ended
finish-requires-then-made-budget-clause-ended g c =
    let p = c.args.problem.now in
    let l = c.loop-zone.learning in
    let mid = c.close.new.self in
    let stack = c.pop.new.self.items in
    let z = c.in-Some.zone in
    let was = subst (IsSearching p l) c.in-Some.ensures.items c.loop-zone.invariant.searching in
    let going = c.in_ok-close.ensures.going c.if-branch.false in
    let is = search-same p l mid (stack ++ z ∷ []) was c.in_ok-close.ensures.learning c.in_ok-close.ensures.grown going
    (c.in_ok-close.ensures.none c.if-branch.false) in
    let cut = c.in-Some-first_cut.cut in
    let first = c.in-Some-first_cut.ensures.first in
    let top = c.in-Some-first_cut.ensures.zone in
    let spent : length mid.arena.trace ≡ mid.budget = sym c.cuts-made.ensures ∙ c.if-made-budget.true
    ∙ sym (c.in_ok-close.ensures.grown.budget ∙ c.loop-zone.invariant.budget) in
    λ _. inl (top-stopped p mid stack z is spent cut top (searching-cut p mid stack z is cut first top) first
    c.in-Some-first_cut.ensures.below (c.in_ok-close.ensures.open c.if-branch.false))

pub finish-requires-2-clause-ended : goal.finish-requires-2-clause-ended
finish-requires-2-clause-ended g c =
    let empty = match-none c.pop.result _ _ c.pop.ensures.cases c.in_default.not-Some in
    let none : length c.loop-zone.stack.items ≡ 0 = omega (arith, empty.0, c.loop-zone.stack.ok) in
    λ _. inr (λ z stands. elim (c.loop-zone.invariant.searching.handled z stands) [
      | inl has ↦ absurd (omega (arith, has.1, none))
      | inr handled ↦ handled
    ])
