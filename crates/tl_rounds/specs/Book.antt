-- The book of a search in pieces: the cuts of all pieces that were taken in, the zones that are left, and the best placement.
-- It covers all layouts: each zone that stands is left, or holds no layout that is lower than the best placement.
use Rattle.std.specs.Prelude.{◌≡◌, ℕ, ◌≤◌, ◌==◌, ◌⊎◌, not, nat_lt, if◌then◌else◌, List, ◌++◌, length, map, Option, Some, None}
use Rattle.std.specs.List.{Contains, filter}
use Rattle.tl_base.specs.declared.limits.TheConstants.{MAX_BUDGET}
use Rattle.tl_problem.specs.declared.placed.Placed.{Placed}
use Rattle.tl_problem.specs.Problem.{ProblemModel}
use Rattle.tl_problem.specs.Placements.{IsOpening}
use Rattle.tl_problem.specs.Sound.{IsSound}
use Rattle.tl_problem.specs.Tight.{IsTight}
use Rattle.tl_problem.specs.Zones.{whole_zone}
use Rattle.tl_cert.specs.declared.trace.CutAt.{CutAt}
use Rattle.tl_cert.specs.Appended.{appended, zone_named}
use Rattle.tl_cert.specs.Traces.{IsKeen, IsTraceOf, Stands, zone_of}
use Rattle.tl_cert.specs.Worked.{IsClosedZone}
use Rattle.tl_solve.specs.declared.piece.Piece.{Piece}
use Rattle.tl_solve.specs.Piece.{AreLeft, IsPieceOf}
use Rattle.tl_solve.specs.TraceEnds.{CutsBelowOpening}
use Rattle.tl_rounds.specs.declared.book.Book.{Book}

-- ---- what a book covers

-- The trace, the zones left and the best placement of a search in pieces. The zones left stand, and no two are the same. The
-- placement is tight, and no zone of the trace has a lower one. Each cut zone had a bound below the height of the opening.
-- Each zone that stands and is not left is closed for the height of the best placement.
pub record IsCovering (problem : ProblemModel) (trace : List CutAt) (lefts : List ℕ) (best : Placed) : Type 0 where
  pub trace_of : IsTraceOf problem trace
  pub left : AreLeft trace lefts
  pub tight : IsTight problem best
  pub keen : IsKeen problem (whole_zone problem) trace best.height
  pub cut_zones : CutsBelowOpening problem trace
  pub closed : (z : ℕ) → Stands trace z → Contains lefts z ⊎ IsClosedZone problem (zone_of problem trace z) best.height

-- the problem of the book
abbrev pub problem_of : Book → ProblemModel
problem_of book = book.problem.now

-- a book that covers its problem, with no more cuts than a certificate may have
pub record IsBook (book : Book) : Type 0 where
  pub sound : IsSound (problem_of book)
  pub few : length book.trace ≤ MAX_BUDGET
  pub covering : IsCovering (problem_of book) book.trace book.lefts book.best

-- the height is at most that of the opening
abbrev pub IsUpToOpening : ProblemModel → ℕ → Type 0
IsUpToOpening problem height = (opening : Placed) → IsOpening problem opening → height ≤ opening.height

-- ---- how it takes a piece in

-- the zones left but for this one
abbrev pub without : ℕ → List ℕ → List ℕ
without z lefts = filter (λ left. not (left == z)) lefts

-- the zones left once a piece of zone `z` is taken into a book with so many cuts: those that were left but for `z`, in their
-- order, and after them those that the piece left, by their new numbers
abbrev pub lefts_after : ℕ → ℕ → List ℕ → List ℕ → List ℕ
lefts_after z cuts lefts more = without z lefts ++ map (zone_named z cuts) more

-- the placement that was found, where there is one and it is lower, and otherwise the best before
abbrev pub lower_of : Placed → Option Placed → Placed
lower_of best None = best
lower_of best (Some found) = if nat_lt found.height best.height then found else best

-- The piece is one of zone `z` of the book, for some height from that of the best placement up to that of the opening.
pub record IsPieceFor (book : Book) (z : ℕ) (piece : Piece) : Type 0 where
  pub given : ℕ
  pub quota : ℕ
  pub from : book.best.height ≤ given
  pub upto : IsUpToOpening (problem_of book) given
  pub piece_of : IsPieceOf (problem_of book) (zone_of (problem_of book) book.trace z) given quota piece.best piece.trace
      piece.lefts

-- the book has taken in the piece of zone `z`
pub record IsTaken (old : Book) (z : ℕ) (piece : Piece) (new : Book) : Type 0 where
  pub problem : problem_of new ≡ problem_of old
  pub trace : new.trace ≡ appended old.trace z piece.trace
  pub lefts : new.lefts ≡ lefts_after z (length old.trace) old.lefts piece.lefts
  pub best : new.best ≡ lower_of old.best piece.best
