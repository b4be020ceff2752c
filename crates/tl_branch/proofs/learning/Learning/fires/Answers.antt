-- One part alone, or both.
use Rattle.std.proofs.Common.{◌≡◌, ℕ, List, [], ◌∷◌, ◌++◌, Option, length, sym, ap, ◌∙◌, subst}
use Rattle.std.specs.Option.{IfNone, IfSome}
use Rattle.tl_cert.specs.declared.log.End.TheVariants as ends
use Rattle.tl_cert.specs.Lines.{IsGoodLine}
use Rattle.tl_branch.specs.inner.Learnings.{line_of}
use Rattle.tl_branch.specs.Learn.{FiresAreNeeded}
use Rattle.tl_branch.specs.declared.learning.Learning.{Learning}
use Rattle.tl_branch.proofs.Fires.{one-needed, both-needed}
use Rattle.tl_branch.proofs.Closing.{retried-next, parts-good}
use Rattle.tl_branch.proofs.learning.Learning.fires.Goals as goal

pub returns-in-Some-other-clause-same : goal.returns-in-Some-other-clause-same
returns-in-Some-other-clause-same c = retried-next c.args.self.now c.fires_alone.new.self c.fires_alone-2.new.self
    c.in_ok-one.ensures.same c.in_ok-other.ensures.same

pub returns-clause-same : goal.returns-clause-same
returns-clause-same c = retried-next c.args.self.now c.fires_alone.new.self c.fires_alone-2.new.self c.in_ok-one.ensures.same
    c.in_ok-other.ensures.same

pub returns-clause-good : goal.returns-clause-good
returns-clause-good c =
    let p = c.args.problem.now in
    let l = c.args.self.now in
    let fires : c.push-2.new.self ≡ c.args.lower ∷ c.args.upper ∷ [] = c.in_ok-push-2.ensures.ok
    ∙ ap (λ (xs : List ℕ). xs ++ c.args.upper ∷ []) (c.in_ok-push.ensures.ok
    ∙ ap (λ (xs : List ℕ). xs ++ c.args.lower ∷ []) c.new-both.ensures) in
    let alone = subst (λ (o : Option (List ℕ)). IfNone o (IsGoodLine p l.arena.trace l.log l.height (length l.log)
    (line_of c.args.zone (c.args.lower ∷ []) ends.Fired) → ⊥)) c.in_default.is c.in_ok-one.ensures.bad in
    subst (λ (fs : List ℕ). IsGoodLine p l.arena.trace l.log l.height (length l.log) (line_of c.args.zone fs ends.Fired))
    (sym fires) (parts-good p l c.requires.learning c.args.zone c.args.lower c.args.upper c.requires.cut alone)

pub returns-clause-needed : goal.returns-clause-needed
returns-clause-needed c =
    let p = c.args.problem.now in
    let l = c.args.self.now in
    let fires : c.push-2.new.self ≡ c.args.lower ∷ c.args.upper ∷ [] = c.in_ok-push-2.ensures.ok
    ∙ ap (λ (xs : List ℕ). xs ++ c.args.upper ∷ []) (c.in_ok-push.ensures.ok
    ∙ ap (λ (xs : List ℕ). xs ++ c.args.lower ∷ []) c.new-both.ensures) in
    let no_lower = subst (λ (o : Option (List ℕ)). IfNone o (IsGoodLine p l.arena.trace l.log l.height (length l.log)
    (line_of c.args.zone (c.args.lower ∷ []) ends.Fired) → ⊥)) c.in_default.is c.in_ok-one.ensures.bad in
    let later = subst (λ (o : Option (List ℕ)). IfNone o (IsGoodLine p c.fires_alone.new.self.arena.trace
    c.fires_alone.new.self.log c.fires_alone.new.self.height (length c.fires_alone.new.self.log)
    (line_of c.args.zone (c.args.upper ∷ []) ends.Fired) → ⊥)) c.in_default-other.is c.in_ok-other.ensures.bad in
    let no_upper = subst (λ (m : Learning). IsGoodLine p m.arena.trace m.log m.height (length m.log)
    (line_of c.args.zone (c.args.upper ∷ []) ends.Fired) → ⊥) c.in_ok-one.ensures.same.same later in
    subst (λ (fs : List ℕ). FiresAreNeeded p l.arena.trace l.log (length l.log) (line_of c.args.zone fs ends.Fired))
    (sym fires) (both-needed p l.arena.trace l.log (length l.log) c.args.zone c.args.lower c.args.upper l.height no_lower no_upper)

pub returns-in-Some-clause-needed : goal.returns-in-Some-clause-needed
returns-in-Some-clause-needed c =
    let l = c.args.self.now in
    subst (λ (fs : List ℕ). FiresAreNeeded c.args.problem.now l.arena.trace l.log (length l.log)
    (line_of c.args.zone fs ends.Fired)) (sym (subst (λ (o : Option (List ℕ)). IfSome o (λ fs. fs ≡ c.args.lower ∷ []))
    c.in-Some.is c.in_ok-one.ensures.one))
    (one-needed c.args.problem.now l.arena.trace l.log (length l.log) c.args.zone c.args.lower)

pub returns-in-Some-other-clause-needed : goal.returns-in-Some-other-clause-needed
returns-in-Some-other-clause-needed c =
    let l = c.args.self.now in
    subst (λ (fs : List ℕ). FiresAreNeeded c.args.problem.now l.arena.trace l.log (length l.log)
    (line_of c.args.zone fs ends.Fired)) (sym (subst (λ (o : Option (List ℕ)). IfSome o (λ fs. fs ≡ c.args.upper ∷ []))
    c.in-Some-other.is c.in_ok-other.ensures.one))
    (one-needed c.args.problem.now l.arena.trace l.log (length l.log) c.args.zone c.args.upper)
