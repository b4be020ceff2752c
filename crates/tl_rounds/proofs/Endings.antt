-- How a search in rounds ends: how many zones can be left, and when none is searched any more.
use Rattle.std.proofs.Common.{◌≡◌, ℕ, ◌+◌, ◌-◌, ◌*◌, ◌<◌, ◌≤◌, ◌⊎◌, inl, inr, [], ◌∷◌, length, refl, sym, ap, ◌∙◌, subst}
use Rattle.std.proofs.Common.{arith}
use Rattle.std.specs.List.{Contains}
use Rattle.tl_base.proofs.Members.{Contains-none}
use Rattle.tl_problem.specs.declared.placed.Placed.{Placed}
use Rattle.tl_problem.specs.Problem.{ProblemModel}
use Rattle.tl_problem.specs.Placements.{IsOpening}
use Rattle.tl_solve.specs.declared.outcome.Outcome.{Outcome}
use Rattle.tl_solve.specs.Arenas.{IsLowered}
use Rattle.tl_solve.specs.Ends.{MayEnd}
use Rattle.tl_solve.specs.TraceLogs.{IsTraceLog}
use Rattle.tl_solve.proofs.ArenaLaws.{lowered-next}
use Rattle.tl_rounds.specs.declared.book.Book.{Book}
use Rattle.tl_rounds.specs.Book.{IsBook, problem_of}
use Rattle.tl_rounds.specs.MadeOfRounds.{AreRounds, no_round}
use Rattle.tl_rounds.specs.Outcomes.{IsRoundsOutcome}
use Rattle.tl_rounds.specs.inner.Takings.{IsRoundTaken, IsUnderWay}
use Rattle.tl_rounds.proofs.Shares.{distinct-few, measure-falls}

-- no two zones that are left are the same
few-left : (book : Book) → IsBook book → (budget : ℕ) → length book.trace ≤ budget → length book.lefts ≤ 2 * budget + 1
few-left book is budget within =
    let few = distinct-few book.lefts (2 * length book.trace + 1) is.covering.left.different
    (λ i d inside. (is.covering.left.standing i d inside).there) in
    omega (arith, few, within)

-- before the first round
pub way-begun : (problem : ProblemModel) (workers budget : ℕ) (book : Book) → IsBook book → problem_of book ≡ problem →
    book.trace ≡ [] → book.lefts ≡ 0 ∷ [] → IsOpening problem book.best → IsUnderWay problem workers budget book
way-begun problem workers budget book is same no_cut left opening = record {
  book = is;
  same = same;
  within = omega (arith, ap length no_cut);
  rounds = subst (λ trace. AreRounds problem workers budget book.best.height trace book.lefts) (sym no_cut)
      (subst (AreRounds problem workers budget book.best.height []) (sym left) no_round);
  opening = (book.best, opening, inl refl);
}

-- one more round
module _ (problem : ProblemModel) (workers budget : ℕ) (old new : Book) (way : IsUnderWay problem workers budget old)
    (taken : IsRoundTaken workers budget old new) where
  pub way-on : IsUnderWay problem workers budget new
  way-on = record {
    book = taken.book;
    same = taken.problem ∙ way.same;
    within = taken.within;
    rounds = subst (λ p. AreRounds p workers budget new.best.height new.trace new.lefts) way.same taken.rounds;
    opening = (way.opening.0, way.opening.1, lowered-next way.opening.0 old.best new.best way.opening.2 taken.lowered);
  }

  pub way-falls : (2 * budget + 2) * (budget - length new.trace) + length new.lefts
      < (2 * budget + 2) * (budget - length old.trace) + length old.lefts
  way-falls = measure-falls budget (length old.trace) (length new.trace) (length old.lefts) (length new.lefts) taken.within
      (few-left new taken.book budget taken.within) taken.progress

-- ---- the end

pub may-end : (book : Book) (budget : ℕ) → IsBook book → (book.lefts ≡ []) ⊎ (length book.trace ≡ budget) →
    MayEnd (problem_of book) book.trace book.best.height budget
may-end book budget is (inl none) = inr (λ z stands. elim (is.covering.closed z stands) [
  | inl has ↦ absurd (Contains-none z (subst (λ lefts. Contains lefts z) none has))
  | inr closed ↦ closed
])
may-end book budget is (inr spent) = inl spent

-- what the search promises besides
pub way-outcome : (problem : ProblemModel) (workers budget : ℕ) (book : Book) (outcome : Outcome) →
    IsUnderWay problem workers budget book → (book.lefts ≡ []) ⊎ (length book.trace ≡ budget) →
    outcome.best ≡ book.best → outcome.trace ≡ book.trace →
    IsTraceLog (problem_of book) book.trace outcome.lower outcome.log → IsRoundsOutcome workers problem budget outcome
way-outcome problem workers budget book outcome way ended best trace log = record {
  opening = (way.opening.0, way.opening.1, subst (IsLowered way.opening.0) (sym best) way.opening.2);
  rounds = (
    book.lefts,
    subst (λ cuts. AreRounds problem workers budget outcome.best.height cuts book.lefts) (sym trace)
        (subst (λ (placed : Placed). AreRounds problem workers budget placed.height book.trace book.lefts) (sym best) way.rounds),
    subst (λ cuts. (book.lefts ≡ []) ⊎ (length cuts ≡ budget)) (sym trace) ended,
  );
  log = subst (λ cuts. IsTraceLog problem cuts outcome.lower outcome.log) (sym trace)
      (subst (λ p. IsTraceLog p book.trace outcome.lower outcome.log) way.same log);
}
