-- A search of one problem that is given as a closure: what it gives, and what it owes.
use Rattle.std.specs.Prelude.{◌≡◌, ℕ, Result, Ok}
use Rattle.std.specs.declared.alloc.AllocError.{AllocError}
use denote.Param.Members.{Shared}
use denote.Ref.{Bor}
use Rattle.tl_problem.specs.Problem.{ProblemModel}
use Rattle.tl_problem.specs.Sound.{IsSound}
use Rattle.tl_solve.specs.declared.outcome.Outcome.{Outcome}
use Rattle.tl_solve.specs.Solver.{IsSolverOutcome}

-- `f` takes a problem, the number of its table, and a budget
module _ {F : Type 0} (g : Shared F (Bor ProblemModel × (ℕ × (ℕ × Unit {0}))) (Result Outcome AllocError)) (f : F) where
  -- a call of `f` with the problem, the number of a table and the budget may give the outcome
  pub record GivesOutcome (budget : ℕ) (problem : ProblemModel) (outcome : Outcome) : Type 0 where
    pub argument : Bor ProblemModel
    pub argument_is : argument.now ≡ problem
    pub table : ℕ
    pub call : g.post f (argument, (table, (budget, tt))) (Ok outcome)

  -- `f` may be called with each sound problem, as that of any table, and this budget
  abbrev pub SearchesEach : ℕ → Type 0
  SearchesEach budget = (p : Bor ProblemModel) (table : ℕ) → IsSound p.now → g.pre f (p, (table, (budget, tt)))

  -- each outcome that a call of `f` gives, with a sound problem and this budget, is one of a search of that problem
  abbrev pub SolvesEach : ℕ → Type 0
  SolvesEach budget = (p : Bor ProblemModel) (table : ℕ) (outcome : Outcome) → IsSound p.now →
      g.post f (p, (table, (budget, tt))) (Ok outcome) → IsSolverOutcome p.now budget outcome
