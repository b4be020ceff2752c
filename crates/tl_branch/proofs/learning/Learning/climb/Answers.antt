-- The zone above has a lower number.
use Rattle.std.proofs.Common.{◌≡◌, ◌≢◌, ◌⊎◌, inl, inr, refl, ℕ, ◌+◌, ◌-◌, ◌*◌, ◌/◌, ◌<◌, List, length, get_or, sym, ap, ◌∙◌, subst, arith}
use Rattle.std.proofs.lemmas.Bool.{cases_lt}
use Rattle.tl_problem.specs.Problem.{ProblemModel}
use Rattle.tl_problem.specs.Zones.{whole_zone}
use Rattle.tl_cert.specs.declared.trace.CutAt.{CutAt}
use Rattle.tl_cert.specs.Traces.{IsTraceOf, Stands}
use Rattle.tl_cert.proofs.CutParts.{has-parts, no_cut}
use Rattle.tl_solve.specs.declared.arena.Arena.{Arena}
use Rattle.tl_branch.specs.declared.learning.Learning.{Learning}
use Rattle.tl_branch.specs.inner.Learnings.{AreJoinedBut, HasLineOfCut, IsGrown, NoOtherLine, NoStandingLine}
use Rattle.tl_branch.proofs.Closing.{grown-next, grown-same}
use Rattle.tl_branch.proofs.Joined.{joined-all, joined-next}
use Rattle.tl_branch.proofs.learning.Learning.climb.Goals as goal

zone-above : (problem : ProblemModel) (trace other : List CutAt) → other ≡ trace → IsTraceOf problem trace → (below : ℕ) →
    0 < below → below < 2 * length trace + 1 → (get_or other ((below - 1) / 2) no_cut).zone < below
zone-above problem trace other same is below past there =
    let parts = has-parts (whole_zone problem) trace is ((below - 1) / 2) no_cut (omega (arith, past, there)) in
    let before = parts.before in
    subst (λ (t : List CutAt). (get_or t ((below - 1) / 2) no_cut).zone < below) (sym same)
    (omega (arith, before, past))

-- the zone of a cut does not stand, so no zone that stands got a line
no-standing : (a b c : Learning) (number : ℕ) → number < length b.arena.trace → IsGrown a b →
    NoOtherLine (get_or b.arena.trace number no_cut).zone b c → NoStandingLine a b → NoStandingLine a c
no-standing a b c number there grown alone none z stands has =
    let same = grown.arena in
    let apart : z ≢ (get_or b.arena.trace number no_cut).zone = λ here.
    (subst (λ (arena : Arena). Stands arena.trace z) (sym same) stands).not_cut number no_cut there (sym here) in
    none z stands (alone z apart has)

-- of which cut it is a part
part-of : (below number : ℕ) → 0 < below → number ≡ (below - 1) / 2 → (below ≡ 2 * number + 1) ⊎ (below ≡ 2 * number + 2)
part-of below number past is = elim (cases_lt below (2 * number + 2)) [
  | inl low ↦ inl (omega (arith, low, past, is))
  | inr high ↦ inr (omega (arith, high, past, is))
]

-- so it is a part of no other
same-part : (below i number : ℕ) → (below ≡ 2 * i + 1) ⊎ (below ≡ 2 * i + 2) → number ≡ (below - 1) / 2 → number ≡ i
same-part below i number (inl low) is = omega (arith, low, is)
same-part below i number (inr high) is = omega (arith, high, is)

zone-same : (other trace : List CutAt) → other ≡ trace → (number : ℕ) →
    (get_or trace number no_cut).zone ≡ (get_or other number no_cut).zone
zone-same other trace same number = ap (λ (t : List CutAt). (get_or t number no_cut).zone) (sym same)

pub zones-init : goal.zones-init
zones-init c = record {
  learning = c.requires.learning;
  grown = grown-same c.args.self.now;
  there = c.requires.there;
  none = λ z stands has. has;
  joined = c.requires.joined;
}

pub returns-then-not-branch-clause-none : goal.returns-then-not-branch-clause-none
returns-then-not-branch-clause-none c = subst (NoStandingLine c.args.self.now)
    (sym (c.in_ok-join.ensures.same c.if-not-branch.true)) c.zones.invariant.none

pub returns-then-not-branch-clause-joined : goal.returns-then-not-branch-clause-joined
returns-then-not-branch-clause-joined c =
    let number = (c.zones.below - 1) / 2 in
    let same = c.in_ok-join.ensures.same c.if-not-branch.true in
    λ _. subst (AreJoinedBut 0) (sym same) (joined-all c.zones.self c.zones.below number
    (part-of c.zones.below number (omega (arith, c.zones-test.true)) refl) c.zones.invariant.joined
    (λ low high. subst (λ (l : Learning). HasLineOfCut l number) same (c.in_ok-join.ensures.joined low high)))

pub returns-after-zones-clause-joined : goal.returns-after-zones-clause-joined
returns-after-zones-clause-joined c = λ going. subst (λ (n : ℕ). AreJoinedBut n c.zones.self)
    (omega (arith, c.zones-test.false)) c.zones.invariant.joined

pub returns-then-not-branch-clause-grown : goal.returns-then-not-branch-clause-grown
returns-then-not-branch-clause-grown c = grown-next c.args.self.now c.zones.self c.join.new.self c.zones.invariant.grown
    c.in_ok-join.ensures.grown

pub zones-smaller : goal.zones-smaller
zones-smaller c =
    let arena = c.in_ok-join.ensures.grown.arena ∙ c.zones.invariant.grown.arena in
    zone-above c.args.problem.now c.args.self.now.arena.trace c.as_slice.result.now
    (c.as_slice.ensures ∙ c.trace.ensures ∙ ap (λ (a : Arena). a.trace) arena) c.requires.learning.arena.trace_of c.zones.below
    (omega (arith, c.zones-test.true)) c.zones.invariant.there

pub zones-preserved : goal.zones-preserved
zones-preserved c =
    let arena = c.in_ok-join.ensures.grown.arena ∙ c.zones.invariant.grown.arena in
    let below = zone-above c.args.problem.now c.args.self.now.arena.trace c.as_slice.result.now
    (c.as_slice.ensures ∙ c.trace.ensures ∙ ap (λ (a : Arena). a.trace) arena) c.requires.learning.arena.trace_of c.zones.below
    (omega (arith, c.zones-test.true)) c.zones.invariant.there in
    let number = (c.zones.below - 1) / 2 in
    let there : number < length c.zones.self.arena.trace = subst (λ (a : Arena). number < length a.trace)
    (sym c.zones.invariant.grown.arena) (omega (arith, c.zones-test.true, c.zones.invariant.there)) in
    record {
      learning = c.in_ok-join.ensures.learning;
      grown = grown-next c.args.self.now c.zones.self c.join.new.self c.zones.invariant.grown c.in_ok-join.ensures.grown;
      there = omega (arith, below, c.zones.invariant.there);
      none = no-standing c.args.self.now c.zones.self c.join.new.self number there c.zones.invariant.grown
          (c.in_ok-join.ensures.alone no_cut) c.zones.invariant.none;
      joined = subst (λ (n : ℕ). AreJoinedBut n c.join.new.self) (zone-same c.as_slice.result.now c.zones.self.arena.trace
          (c.as_slice.ensures ∙ c.trace.ensures ∙ ap (λ (a : Arena). a.trace) c.in_ok-join.ensures.grown.arena) number)
          (joined-next c.zones.self c.join.new.self c.in_ok-join.ensures.grown c.zones.below
          (get_or c.zones.self.arena.trace number no_cut).zone (c.in_ok-join.ensures.alone no_cut) c.zones.invariant.joined
          (λ i within part. subst (HasLineOfCut c.join.new.self) (same-part c.zones.below i number part refl)
          (c.in_ok-join.ensures.line c.if-not-branch.false)));
    }
