use Rattle.std.proofs.Common.{◌≡◌, ◌⊎◌, true, false, [], inl, inr, length, subst, arith}
use Rattle.tl_solve.specs.Solver.{IsSolverOutcome}
use Rattle.tl_rounds.proofs.Endings.{may-end, way-begun, way-falls, way-on, way-outcome}
use Rattle.tl_rounds.proofs.rounds.RoundsSolver.solve.Goals as goal

pub loop-book-init : goal.loop-book-init
loop-book-init g c =
    let made = c.in_ok-book.ensures in
    way-begun c.args.problem.now c.args.self.now.workers c.args.budget c.in_ok-book.book made.book made.problem made.no_cut
    made.left made.opening

pub loop-book-preserved : goal.loop-book-preserved
loop-book-preserved g c =
    way-on c.args.problem.now c.args.self.now.workers c.args.budget c.loop-book.book c.take_round.new.book c.loop-book.invariant
    c.in_ok-take_round.ensures

pub loop-book-smaller : goal.loop-book-smaller
loop-book-smaller g c =
    way-falls c.args.problem.now c.args.self.now.workers c.args.budget c.loop-book.book c.take_round.new.book
    c.loop-book.invariant c.in_ok-take_round.ensures

pub returns-clause-solved : goal.returns-clause-solved
returns-clause-solved g c =
    let way = c.loop-book.invariant in
    let book = c.loop-book.book in
    let over : (book.lefts ≡ []) ⊎ (length book.trace ≡ c.args.budget) = elim c.loop-book-test.ensures.over [
      | inl holds ↦ absurd (let differ : false ≡ true = holds in cc)
      | inr (inl none) ↦ inl none
      | inr (inr spent) ↦ inr (omega (arith, spent, way.within))
    ] in
    subst (λ p. IsSolverOutcome p c.args.budget c.in_ok-found.found) way.same
    (c.in_ok-found.ensures.solved c.args.budget way.within c.requires.budget (may-end book c.args.budget way.book over))

pub returns-clause-besides : goal.returns-clause-besides
returns-clause-besides g c =
    let way = c.loop-book.invariant in
    let book = c.loop-book.book in
    let found = c.in_ok-found in
    let over : (book.lefts ≡ []) ⊎ (length book.trace ≡ c.args.budget) = elim c.loop-book-test.ensures.over [
      | inl holds ↦ absurd (let differ : false ≡ true = holds in cc)
      | inr (inl none) ↦ inl none
      | inr (inr spent) ↦ inr (omega (arith, spent, way.within))
    ] in
    way-outcome c.args.problem.now c.args.self.now.workers c.args.budget book found.found way over found.ensures.best
    found.ensures.trace found.ensures.lines
