-- The line of a zone of no widths, or of a high bound.
use Rattle.std.proofs.Common.{◌≡◌, ℕ, List, Option, Some, None, inl, inr, length, get_or, sym, subst}
use Rattle.tl_cert.specs.declared.log.End.TheVariants as ends
use Rattle.tl_cert.specs.Lines.{IsGoodLine}
use Rattle.tl_branch.specs.inner.Learnings.{line_of}
use Rattle.tl_branch.specs.Learn.{FiresAreNeeded}
use Rattle.tl_branch.proofs.Fires.{none-needed}
use Rattle.tl_branch.proofs.Closing.{grown-same, cycle-line, chain-line, none-widths, some-bound, shut-grown}
use Rattle.tl_branch.proofs.learning.Learning.close_by_bound.Goals as goal

pub put-requires-clause-good : goal.put-requires-clause-good
put-requires-clause-good c =
    let p = c.args.problem.now in
    let l = c.args.self.now in
    let none = subst (λ (bs : List (Option ℕ)). get_or bs c.args.zone None ≡ None) c.bounds.ensures c.in_default.is in
    subst (λ (fs : List ℕ). IsGoodLine p l.arena.trace l.log l.height (length l.log) (line_of c.args.zone fs ends.Cycle))
    (sym c.new.ensures) (cycle-line p l c.requires.learning c.args.zone c.requires.there none)

pub returns-in_default-clause-closed : goal.returns-in_default-clause-closed
returns-in_default-clause-closed c =
    let none = subst (λ (bs : List (Option ℕ)). get_or bs c.args.zone None ≡ None) c.bounds.ensures c.in_default.is in
    λ _. shut-grown c.args.problem.now c.args.self.now c.requires.learning c.args.zone c.requires.there c.put.new.self
    c.in_ok-put.ensures.grown c.in_ok-put.ensures.line
    (inl (none-widths c.args.problem.now c.args.self.now c.requires.learning c.args.zone c.requires.there none))

pub put-requires-2-clause-good : goal.put-requires-2-clause-good
put-requires-2-clause-good c =
    let p = c.args.problem.now in
    let l = c.args.self.now in
    let some = subst (λ (bs : List (Option ℕ)). get_or bs c.args.zone None ≡ Some c.in-Some.bound) c.bounds.ensures c.in-Some.is in
    subst (λ (fs : List ℕ). IsGoodLine p l.arena.trace l.log l.height (length l.log) (line_of c.args.zone fs ends.Chain))
    (sym c.new-2.ensures) (chain-line p l c.requires.learning c.args.zone c.requires.there c.in-Some.bound some
    c.if-bound-self.false)

pub returns-clause-closed : goal.returns-clause-closed
returns-clause-closed c =
    let some = subst (λ (bs : List (Option ℕ)). get_or bs c.args.zone None ≡ Some c.in-Some.bound) c.bounds.ensures c.in-Some.is in
    λ _. shut-grown c.args.problem.now c.args.self.now c.requires.learning c.args.zone c.requires.there c.put-2.new.self
    c.in_ok-put-2.ensures.grown c.in_ok-put-2.ensures.line
    (inr (
      c.in-Some.bound,
      some-bound c.args.problem.now c.args.self.now c.requires.learning c.args.zone c.requires.there
          c.in-Some.bound some,
      c.if-bound-self.false,
    ))

pub put-requires-clause-fired : goal.put-requires-clause-fired
put-requires-clause-fired c = inl c.new.ensures

pub put-requires-2-clause-fired : goal.put-requires-2-clause-fired
put-requires-2-clause-fired c = inl c.new-2.ensures

pub put-requires-clause-needed : goal.put-requires-clause-needed
put-requires-clause-needed c =
    let l = c.args.self.now in
    subst (λ (fs : List ℕ). FiresAreNeeded c.args.problem.now l.arena.trace l.log (length l.log)
    (line_of c.args.zone fs ends.Cycle)) (sym c.new.ensures)
    (none-needed c.args.problem.now l.arena.trace l.log (length l.log) c.args.zone ends.Cycle)

pub put-requires-2-clause-needed : goal.put-requires-2-clause-needed
put-requires-2-clause-needed c =
    let l = c.args.self.now in
    subst (λ (fs : List ℕ). FiresAreNeeded c.args.problem.now l.arena.trace l.log (length l.log)
    (line_of c.args.zone fs ends.Chain)) (sym c.new-2.ensures)
    (none-needed c.args.problem.now l.arena.trace l.log (length l.log) c.args.zone ends.Chain)

pub returns-then-bound-self-clause-grown : goal.returns-then-bound-self-clause-grown
returns-then-bound-self-clause-grown c = grown-same c.args.self.now
