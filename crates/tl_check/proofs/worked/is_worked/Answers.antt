-- Part by part.
use Rattle.std.proofs.Common.{inl, inr, length, refl, sym, ap, ◌∙◌}
use Rattle.tl_check.proofs.Working.{below-from, below-needed, below-enough, below-closed}
use Rattle.tl_check.proofs.worked.is_worked.Goals as goal

pub returns-then-not-cuts_are_needed-clause-worked : goal.returns-then-not-cuts_are_needed-clause-worked
returns-then-not-cuts_are_needed-clause-worked c =
    let s = c.args.section.now in
    let needed = rw c.as_slice-trace.ensures at c.cuts_are_needed.ensures.needed in (
      λ never. absurd cc,
      λ below. let yes = needed.1 (below-needed c.args.problem.now s.trace s.height s.lower c.args.budget c.args.opening
          c.requires.opening below) in absurd cc,
    )

pub returns-then-not-is_enough-clause-worked : goal.returns-then-not-is_enough-clause-worked
returns-then-not-is_enough-clause-worked c =
    let s = c.args.section.now in
    let needed = rw c.as_slice-trace.ensures at c.cuts_are_needed.ensures.needed in
    let enough = rw c.as_slice-trace.ensures at c.is_enough.ensures.enough in (
      λ never. absurd cc,
      λ below. let yes = enough.1 (below-enough c.args.problem.now s.trace s.height s.lower c.args.budget c.args.opening
          c.requires.opening below) in absurd cc,
    )

pub returns-then-trace-budget-clause-worked : goal.returns-then-trace-budget-clause-worked
returns-then-trace-budget-clause-worked c =
    let s = c.args.section.now in
    let needed = rw c.as_slice-trace.ensures at c.cuts_are_needed.ensures.needed in
    let enough = rw c.as_slice-trace.ensures at c.is_enough.ensures.enough in (
      λ yes. below-from c.args.problem.now s.trace s.height s.lower c.args.budget c.args.opening c.requires.opening
          (needed.0 c.if-not-cuts_are_needed.false)
          (enough.0 c.if-not-is_enough.false)
          (inl (sym (ap length c.as_slice-trace.ensures) ∙ c.if-trace-budget.true)),
      λ below. refl,
    )

pub returns-clause-worked : goal.returns-clause-worked
returns-clause-worked c =
    let s = c.args.section.now in
    let needed = rw c.as_slice-trace.ensures at c.cuts_are_needed.ensures.needed in
    let enough = rw c.as_slice-trace.ensures at c.is_enough.ensures.enough in
    let closed = rw c.as_slice-trace.ensures at c.are_closed.ensures.closed in (
      λ yes. below-from c.args.problem.now s.trace s.height s.lower c.args.budget c.args.opening c.requires.opening
          (needed.0 c.if-not-cuts_are_needed.false)
          (enough.0 c.if-not-is_enough.false) (inr (closed.0 yes)),
      λ below. closed.1 (below-closed c.args.problem.now s.trace s.height s.lower c.args.budget c.args.opening c.requires.opening
          (λ same. c.if-trace-budget.false (ap length c.as_slice-trace.ensures ∙ same)) below),
    )
