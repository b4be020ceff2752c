-- A law of the definitions, on which a search in pieces rests. It is the contract of a function of `laws`.
use Rattle.std.specs.Prelude.{ℕ, ◌≤◌, List, [], Option}
use Rattle.tl_problem.specs.declared.placed.Placed.{Placed}
use Rattle.tl_problem.specs.declared.zone.Range.{Range}
use Rattle.tl_problem.specs.Problem.{ProblemModel, total_height}
use Rattle.tl_problem.specs.Layouts.{IsLayoutByLow}
use Rattle.tl_problem.specs.Sound.{IsSound}
use Rattle.tl_problem.specs.Zones.{IsZone, InZone}
use Rattle.tl_problem.specs.Agreement.{LowIsHigh}
use Rattle.tl_cert.specs.declared.trace.CutAt.{CutAt}
use Rattle.tl_solve.specs.Piece.{final_height, IsPieceOf}

-- where a piece leaves no zone, and `low` is `high` for every cell, no layout in its zone is lower than what it found, or than
-- the given height where it found nothing
abbrev pub PiecesLeaveNothingLower : Type 0
PiecesLeaveNothingLower = (problem : ProblemModel) → IsSound problem → LowIsHigh problem →
    (zone : List Range) → IsZone problem zone →
    (given quota : ℕ) (best : Option Placed) (trace : List CutAt) → IsPieceOf problem zone given quota best trace [] →
    (widths heights : List ℕ) → InZone problem zone widths → IsLayoutByLow problem widths heights →
    final_height given best ≤ total_height problem heights
