-- A book in the middle of a round, and after it. No public clause cites this file.
use Rattle.std.specs.Prelude.{◌≡◌, ℕ, ◌+◌, ◌*◌, ◌<◌, ◌≤◌, ◌⊎◌, List, ◌++◌, length, take, drop}
use Rattle.tl_problem.specs.declared.placed.Placed.{Placed}
use Rattle.tl_problem.specs.Problem.{ProblemModel}
use Rattle.tl_problem.specs.Placements.{IsOpening}
use Rattle.tl_cert.specs.Traces.{IsZoneOf, zone_of}
use Rattle.tl_solve.specs.Arenas.{IsLowered}
use Rattle.tl_rounds.specs.declared.book.Book.{Book}
use Rattle.tl_rounds.specs.Book.{IsBook, problem_of}
use Rattle.tl_rounds.specs.MadeOfRounds.{AreBlocks, AreRounds}

-- the book has taken in a piece of each of the first `count` zones that were left, each with at most `quota` cuts
pub record IsTakenSoFar (old : Book) (quota count : ℕ) (new : Book) : Type 0 where
  pub book : IsBook new
  pub problem : problem_of new ≡ problem_of old
  pub lowered : IsLowered old.best new.best
  pub few : length new.trace ≤ length old.trace + count * quota
  pub old_zones : (a : ℕ) → IsZoneOf old.trace a → zone_of (problem_of old) new.trace a ≡ zone_of (problem_of old) old.trace a
  pub left : List ℕ
  pub lefts : new.lefts ≡ drop count old.lefts ++ left
  pub blocks : AreBlocks (problem_of old) new.best.height quota old.trace (take count old.lefts) new.trace left
  pub progress : (length old.trace < length new.trace)
      ⊎ ((length new.trace ≡ length old.trace) × (length new.lefts + count ≡ length old.lefts))

-- the book has taken in a round: a cut was made, or fewer zones are left
pub record IsRoundTaken (workers budget : ℕ) (old new : Book) : Type 0 where
  pub book : IsBook new
  pub problem : problem_of new ≡ problem_of old
  pub lowered : IsLowered old.best new.best
  pub within : length new.trace ≤ budget
  pub rounds : AreRounds (problem_of old) workers budget new.best.height new.trace new.lefts
  pub progress : (length old.trace < length new.trace)
      ⊎ ((length new.trace ≡ length old.trace) × (length new.lefts < length old.lefts))

-- the book of a search that began with the opening and has taken in some rounds
pub record IsUnderWay (problem : ProblemModel) (workers budget : ℕ) (now : Book) : Type 0 where
  pub book : IsBook now
  pub same : problem_of now ≡ problem
  pub within : length now.trace ≤ budget
  pub rounds : AreRounds problem workers budget now.best.height now.trace now.lefts
  pub opening : (placed : Placed) × IsOpening problem placed × IsLowered placed now.best
