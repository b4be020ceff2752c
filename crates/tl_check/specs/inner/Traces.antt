-- No public clause cites this file. Which zones were cut, by flags, and which are closed.
use Rattle.std.specs.Prelude.{◌≡◌, ◌≢◌, ℕ, ◌+◌, ◌*◌, ◌<◌, ◌≤◌, Bool, true, false, IsTrue, List, length, get_or}
use Rattle.std.specs.List.{All}
use Rattle.tl_base.specs.Steps.{height_at}
use Rattle.tl_problem.specs.declared.cell.Cell.{Cell}
use Rattle.tl_problem.specs.declared.placed.Placed.{Placed}
use Rattle.tl_problem.specs.Problem.{ProblemModel}
use Rattle.tl_problem.specs.Placements.{IsOpening}
use Rattle.tl_problem.specs.Spans.{has_span}
use Rattle.tl_problem.specs.Zones.{span_at}
use Rattle.tl_cert.specs.declared.trace.CutAt.{CutAt}
use Rattle.tl_cert.specs.Traces.{Stands, zone_of}
use Rattle.tl_cert.specs.Worked.{IsBoundOf, IsClosedZone}

-- the flag of each zone tells whether a cut names it
pub record AreFlags (trace : List CutAt) (flags : List Bool) : Type 0 where
  pub room : 2 * length trace + 1 ≤ length flags
  pub cut : (z : ℕ) (d : Bool) → z < length flags → get_or flags z d ≡ true → All (λ cut. cut.zone ≢ z) trace → ⊥
  pub not_cut : (z : ℕ) (d : Bool) → z < length flags → get_or flags z d ≡ false → All (λ cut. cut.zone ≢ z) trace

-- the opening has this height
abbrev pub HasOpening : ProblemModel → ℕ → Type 0
HasOpening problem height = (placed : Placed) × IsOpening problem placed × (placed.height ≡ height)

-- each zone that the first cuts are of had a bound below the height
abbrev pub CutsAreNeeded : ProblemModel → List CutAt → ℕ → ℕ → Type 0
CutsAreNeeded problem trace height upto = (i : ℕ) (d : CutAt) → i < upto →
    (bound : ℕ) × IsBoundOf problem trace (get_or trace i d).zone bound × (bound < height)

-- one of the first zones stands and has a bound of at most `lower`
abbrev pub IsEnough : ProblemModel → List CutAt → ℕ → ℕ → Type 0
IsEnough problem trace lower upto = (z : ℕ) × (bound : ℕ) × (z < upto) × Stands trace z × IsBoundOf problem trace z bound ×
    (bound ≤ lower)

-- each of the first zones that stands is closed
abbrev pub AllClosed : ProblemModel → List CutAt → ℕ → ℕ → Type 0
AllClosed problem trace height upto = (z : ℕ) → z < upto → Stands trace z → IsClosedZone problem (zone_of problem trace z) height

-- `low` and `high` of the cell differ at a width from `first` to `last`
abbrev pub CellDiffers : Cell → ℕ → ℕ → Type 0
CellDiffers cell first last = (w : ℕ) × (first ≤ w) × (w ≤ last) × (height_at cell.low w ≢ height_at cell.high w)

-- one of the first cells has the span, and differs
abbrev pub SpanDiffers : ProblemModel → ℕ → ℕ → ℕ → ℕ → Type 0
SpanDiffers problem s first last upto = (k : ℕ) × (cell : Cell) × (k < upto) × (k < length problem.cells) ×
    (get_or problem.cells k cell ≡ cell)
    × IsTrue (has_span (span_at problem s) cell) × CellDiffers cell first last
