-- The zone is closed by its bound, or by the store, and those above it get lines.
use Rattle.std.proofs.Common.{ℕ, sym, ap, ◌∙◌, subst}
use Rattle.tl_cert.specs.Traces.{Stands}
use Rattle.tl_solve.specs.declared.arena.Arena.{Arena}
use Rattle.tl_solve.specs.Arenas.{HasBoundBelow}
use Rattle.tl_branch.specs.declared.learning.Learning.{Learning}
use Rattle.tl_branch.specs.inner.Learnings.{NoOtherLine, NoOtherStandingLine, NoStandingLine, IsGrown}
use Rattle.tl_branch.proofs.Closing.{grown-next}
use Rattle.tl_branch.proofs.Joined.{joined-first, joined-same}
use Rattle.tl_branch.proofs.Walk.{handled-grown, handled-bound, handled-store}
use Rattle.tl_branch.proofs.learning.Learning.close.Goals as goal

-- first the zone may get a line, and then no zone that stands
alone-next : (a b c : Learning) (zone : ℕ) → IsGrown a b → NoOtherLine zone a b → NoStandingLine b c →
    NoOtherStandingLine zone a c
alone-next a b c zone grown alone none z stands apart has = alone z apart
    (none z (subst (λ (arena : Arena). Stands arena.trace z) (sym grown.arena) stands) has)

-- the zone alone may have got a line, by its bound or by the store
alone-both : (a b c : Learning) (zone : ℕ) → NoOtherLine zone a b → NoOtherLine zone b c → NoOtherLine zone a c
alone-both a b c zone first second z apart has = first z apart (second z apart has)

pub climb-requires-clause-joined : goal.climb-requires-clause-joined
climb-requires-clause-joined c = joined-first c.args.self.now c.close_by_bound.new.self c.in_ok-close_by_bound.ensures.grown
    c.args.zone c.in_ok-close_by_bound.ensures.alone c.requires.joined

pub returns-then-branch-clause-alone : goal.returns-then-branch-clause-alone
returns-then-branch-clause-alone c = alone-next c.args.self.now c.close_by_bound.new.self c.climb.new.self c.args.zone
    c.in_ok-close_by_bound.ensures.grown c.in_ok-close_by_bound.ensures.alone c.in_ok-climb.ensures.none

pub climb-requires-then-branch-2-clause-joined : goal.climb-requires-then-branch-2-clause-joined
climb-requires-then-branch-2-clause-joined c = joined-first c.args.self.now c.close_by_store.new.self
    (grown-next c.args.self.now c.close_by_bound.new.self c.close_by_store.new.self c.in_ok-close_by_bound.ensures.grown
    c.in_ok-close_by_store.ensures.grown) c.args.zone
    (alone-both c.args.self.now c.close_by_bound.new.self c.close_by_store.new.self c.args.zone
    c.in_ok-close_by_bound.ensures.alone c.in_ok-close_by_store.ensures.alone) c.requires.joined

pub returns-then-branch-2-clause-alone : goal.returns-then-branch-2-clause-alone
returns-then-branch-2-clause-alone c = alone-next c.args.self.now c.close_by_store.new.self c.climb-then-branch-2.new.self
    c.args.zone
    (grown-next c.args.self.now c.close_by_bound.new.self c.close_by_store.new.self c.in_ok-close_by_bound.ensures.grown
    c.in_ok-close_by_store.ensures.grown)
    (alone-both c.args.self.now c.close_by_bound.new.self c.close_by_store.new.self c.args.zone
    c.in_ok-close_by_bound.ensures.alone c.in_ok-close_by_store.ensures.alone) c.in_ok-climb-2.ensures.none

pub returns-clause-alone : goal.returns-clause-alone
returns-clause-alone c =
    let alone = alone-both c.args.self.now c.close_by_bound.new.self c.close_by_store.new.self c.args.zone
    c.in_ok-close_by_bound.ensures.alone c.in_ok-close_by_store.ensures.alone in
    λ z stands apart has. alone z apart has

pub returns-clause-none : goal.returns-clause-none
returns-clause-none c = λ closed. c.in_ok-close_by_store.ensures.none c.if-branch-2.false
    ∙ ap (λ (l : Learning). l.lines) (c.in_ok-close_by_bound.ensures.open c.if-branch.false).0

pub returns-clause-joined : goal.returns-clause-joined
returns-clause-joined c =
    let same = (c.in_ok-close_by_bound.ensures.open c.if-branch.false).0 in
    λ going. joined-same c.args.self.now c.close_by_store.new.self 0
    (c.in_ok-close_by_store.ensures.grown.arena ∙ ap (λ (l : Learning). l.arena) same)
    (c.in_ok-close_by_store.ensures.none c.if-branch-2.false ∙ ap (λ (l : Learning). l.lines) same) c.requires.joined

pub returns-then-branch-clause-grown : goal.returns-then-branch-clause-grown
returns-then-branch-clause-grown c = grown-next c.args.self.now c.close_by_bound.new.self c.climb.new.self
    c.in_ok-close_by_bound.ensures.grown c.in_ok-climb.ensures.grown

pub returns-then-branch-clause-closed : goal.returns-then-branch-clause-closed
returns-then-branch-clause-closed c = λ _. handled-grown c.args.problem.now c.close_by_bound.new.self c.climb.new.self
    c.in_ok-climb.ensures.grown c.args.zone (λ _. (c.in_ok-close_by_bound.ensures.closed c.if-branch.true).line)
    (handled-bound c.args.problem.now c.args.self.now c.close_by_bound.new.self
    c.in_ok-close_by_bound.ensures.grown c.requires.height c.args.zone
    (c.in_ok-close_by_bound.ensures.closed c.if-branch.true))

pub close_by_store-requires-clause-below : goal.close_by_store-requires-clause-below
close_by_store-requires-clause-below c =
    let opens = c.in_ok-close_by_bound.ensures.open c.if-branch.false in
    subst (λ (l : Learning). HasBoundBelow c.args.problem.now l.arena.trace c.args.zone l.height) (sym opens.0) opens.1

pub returns-then-branch-2-clause-grown : goal.returns-then-branch-2-clause-grown
returns-then-branch-2-clause-grown c = grown-next c.args.self.now c.close_by_store.new.self c.climb-then-branch-2.new.self
    (grown-next c.args.self.now c.close_by_bound.new.self c.close_by_store.new.self c.in_ok-close_by_bound.ensures.grown
    c.in_ok-close_by_store.ensures.grown) c.in_ok-climb-2.ensures.grown

pub returns-then-branch-2-clause-closed : goal.returns-then-branch-2-clause-closed
returns-then-branch-2-clause-closed c = λ _. handled-grown c.args.problem.now c.close_by_store.new.self
    c.climb-then-branch-2.new.self c.in_ok-climb-2.ensures.grown c.args.zone
    (λ _. (c.in_ok-close_by_store.ensures.closed c.if-branch-2.true).1) (handled-store c.args.problem.now
    c.close_by_store.new.self c.args.zone (c.in_ok-close_by_store.ensures.closed c.if-branch-2.true))
