-- What a checker is reserved for.
use Rattle.std.specs.Prelude.{◌≡◌, ℕ, ◌+◌, ◌*◌, ◌≤◌, [], length}
use Rattle.tl_base.specs.declared.limits.TheConstants.{MAX_BUDGET}
use Rattle.tl_problem.specs.declared.placed.Placed.{Placed}
use Rattle.tl_problem.specs.Problem.{ProblemModel}
use Rattle.tl_problem.specs.Placements.{IsOpening}
use Rattle.tl_problem.specs.Works.{HasPage}
use Rattle.tl_check.specs.declared.checker.Checker.{Checker}

-- the checker has room for traces of this problem with so many cuts: its constraints are those of the page, with room for
-- a mark; it knows the height of the opening; and it has a flag for each zone
pub record IsReserved (problem : ProblemModel) (cuts : ℕ) (checker : Checker) : Type 0 where
  pub few : cuts ≤ MAX_BUDGET
  pub page : HasPage problem checker.work
  pub none_held : checker.work.matrix.held ≡ []
  pub marks : 1 ≤ checker.work.matrix.marks
  pub opening : (placed : Placed) × IsOpening problem placed × (placed.height ≡ checker.opening)
  pub flags : 2 * cuts + 1 ≤ length checker.is_cut.items

-- what the checker was reserved for it stays reserved for
abbrev pub StaysReserved : ProblemModel → Checker → Checker → Type 0
StaysReserved problem old new = (cuts : ℕ) → IsReserved problem cuts old → IsReserved problem cuts new
