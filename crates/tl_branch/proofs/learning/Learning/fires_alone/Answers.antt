-- The store tries the line, and nothing else changes.
use Rattle.std.proofs.Common.{◌≡◌, ℕ, true, false, List, [], ◌∷◌, ◌++◌, length, refl, sym, ap, ◌∙◌, subst}
use Rattle.tl_cert.specs.declared.log.End.TheVariants as ends
use Rattle.tl_cert.specs.declared.trace.CutAt.{CutAt}
use Rattle.tl_cert.specs.Lines.{IsGoodLine}
use Rattle.tl_branch.specs.inner.Learnings.{line_of}
use Rattle.tl_branch.proofs.Learnings.{learning-store}
use Rattle.tl_branch.proofs.learning.Learning.fires_alone.Goals as goal

pub returns-then-not-tries-clause-same : goal.returns-then-not-tries-clause-same
returns-then-not-tries-clause-same c = record { store = c.tries.new.self; same = refl }

pub returns-then-not-tries-clause-learning : goal.returns-then-not-tries-clause-learning
returns-then-not-tries-clause-learning c = learning-store c.args.problem.now c.args.self.now c.requires.learning c.tries.new.self
    c.tries.ensures.store c.tries.ensures.kept c.tries.ensures.stays

pub returns-then-not-tries-clause-bad : goal.returns-then-not-tries-clause-bad
returns-then-not-tries-clause-bad c good =
    let p = c.args.problem.now in
    let l = c.args.self.now in
    let fires : c.push.new.self ≡ c.args.number ∷ [] = c.in_ok-push.ensures.ok ∙ ap (λ (xs : List ℕ). xs ++ c.args.number ∷ [])
    c.new-fires.ensures in
    let was = subst (λ (t : List CutAt). IsGoodLine p t l.log l.height (length l.log) (line_of c.args.zone c.push.new.self ends.Fired))
    (sym c.trace-trace.ensures) (subst (λ (fs : List ℕ). IsGoodLine p l.arena.trace l.log l.height (length l.log)
    (line_of c.args.zone fs ends.Fired)) (sym fires) good) in
    let differ : true ≡ false = sym (c.tries.ensures.good.1 was) ∙ c.if-not-tries.true in
    cc

pub returns-clause-same : goal.returns-clause-same
returns-clause-same c = record { store = c.tries.new.self; same = refl }

pub returns-clause-learning : goal.returns-clause-learning
returns-clause-learning c = learning-store c.args.problem.now c.args.self.now c.requires.learning c.tries.new.self
    c.tries.ensures.store c.tries.ensures.kept c.tries.ensures.stays

pub returns-clause-good : goal.returns-clause-good
returns-clause-good c =
    let p = c.args.problem.now in
    let l = c.args.self.now in
    let fires : c.push.new.self ≡ c.args.number ∷ [] = c.in_ok-push.ensures.ok ∙ ap (λ (xs : List ℕ). xs ++ c.args.number ∷ [])
    c.new-fires.ensures in
    subst (λ (fs : List ℕ). IsGoodLine p l.arena.trace l.log l.height (length l.log) (line_of c.args.zone fs ends.Fired)) fires
    (subst (λ (t : List CutAt). IsGoodLine p t l.log l.height (length l.log) (line_of c.args.zone c.push.new.self ends.Fired))
    c.trace-trace.ensures (c.tries.ensures.good.0 c.if-not-tries.false))
