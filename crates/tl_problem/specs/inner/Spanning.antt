-- How the spans of cells, and the classes of a span, are found; no public clause cites this file.
use Rattle.std.specs.Prelude.{◌≡◌, ℕ, ◌+◌, ◌*◌, ◌/◌, ◌%◌, ◌<◌, ◌≤◌, ◌⊎◌, Bool, true, false, List, [], ◌++◌, length, get_or, map}
use Rattle.std.specs.Prelude.{filter}
use Rattle.std.specs.List.{All, AllPairs, Contains}
use Rattle.tl_base.specs.declared.steps.Config.{Config}
use Rattle.tl_base.specs.Steps.{first_width}
use Rattle.tl_problem.specs.declared.axis.Turn.{Turn}
use Rattle.tl_problem.specs.declared.cell.Cell.{Cell}
use Rattle.tl_problem.specs.declared.cell.Span.{Span}
use Rattle.tl_problem.specs.Spans.{span, has_span, greatest}
use Rattle.tl_problem.specs.inner.Axes.{turn}
use Rattle.tl_problem.specs.inner.Demands.{cell_at}

-- the cell lies within so many columns
abbrev pub IsInGrid : ℕ → Cell → Type 0
IsInGrid cols cell = (cell.left < cell.right) × (cell.right ≤ cols)

-- the place of a span in a square of left and right edges, row by row
abbrev pub slot_of : ℕ → Cell → ℕ
slot_of side cell = cell.left * side + cell.right

-- a place of the square is marked exactly where one of the first cells, up to a number, has that span
pub record IsSeen (side : ℕ) (cells : List Cell) (upto : ℕ) (seen : List Bool) : Type 0 where
  pub size : length seen ≡ side * side
  pub all : (k : ℕ) → k < upto → get_or seen (slot_of side (cell_at cells k)) false ≡ true
  pub some : (slot : ℕ) → get_or seen slot false ≡ true → (k : ℕ) × ((k < upto) × (slot_of side (cell_at cells k) ≡ slot))

-- the span lies before another, by left, then right
abbrev pub IsEarlier : Span → Span → Type 0
IsEarlier a b = (a.left < b.left) ⊎ ((a.left ≡ b.left) × (a.right < b.right))

-- the spans of the marked places, up to one of them
pub record AreSpansUpto (side : ℕ) (seen : List Bool) (upto : ℕ) (spans : List Span) : Type 0 where
  pub ordered : AllPairs IsEarlier spans
  pub all : (slot : ℕ) → slot < upto → get_or seen slot false ≡ true → Contains spans (span (slot / side) (slot % side))
  pub some : (columns : Span) → Contains spans columns →
      (slot : ℕ) × ((slot < upto) × ((get_or seen slot false ≡ true) × (span (slot / side) (slot % side) ≡ columns)))

-- the spans of the cells, by left, then right
pub record AreSpans (cells : List Cell) (spans : List Span) : Type 0 where
  pub ordered : AllPairs IsEarlier spans
  pub each : (cell : Cell) → Contains cells cell → Contains spans (span cell.left cell.right)
  pub some : (columns : Span) → Contains spans columns → (cell : Cell) × Contains cells cell × (has_span columns cell ≡ true)

-- the cells of a span, among some
abbrev pub cells_among : List Cell → Span → List Cell
cells_among cells columns = filter (has_span columns) cells

-- the cells that have these turns, in their order
abbrev pub cells_at : List Cell → List Turn → List Cell
cells_at cells turns = map (λ t. cell_at cells t.cell) turns

-- turns of cells, among them those of all cells that begin in the column
pub record AreTurnsAt (cells : List Cell) (column : ℕ) (turns : List Turn) : Type 0 where
  pub there : All (λ t. t.cell < length cells) turns
  pub each : (k : ℕ) → k < length cells → (cell_at cells k).left ≡ column → Contains turns (turn column k)

-- the greatest least width of the span's cells
abbrev pub least_among : List Cell → Span → ℕ
least_among cells columns = greatest (map (λ cell. first_width cell.low) (cells_among cells columns))

-- a step that begins at this width, past `least` and up to `most`
pub record IsStepAt (steps : List Config) (least most w : ℕ) : Type 0 where
  pub past : least < w
  pub within : w ≤ most
  pub step : Config
  pub has : Contains steps step
  pub begins : step.width ≡ w

-- the list with the widths at which steps begin, past `least` and up to `most`
pub record AddsSteps (old new : List ℕ) (steps : List Config) (least most : ℕ) : Type 0 where
  pub keeps : (w : ℕ) → Contains old w → Contains new w
  pub adds : (w : ℕ) → IsStepAt steps least most w → Contains new w
  pub only : (w : ℕ) → Contains new w → Contains old w ⊎ IsStepAt steps least most w

-- a further class of the span begins at this width
pub record IsClass (cells : List Cell) (columns : Span) (least most w : ℕ) : Type 0 where
  pub cell : Cell
  pub has : Contains cells cell
  pub spans : has_span columns cell ≡ true
  pub begins : IsStepAt (cell.low ++ cell.high) least most w

-- widths that begin classes, of the cells seen so far
pub record AreFound (cells done : List Cell) (columns : Span) (least most : ℕ) (firsts : List ℕ) : Type 0 where
  pub least_in : Contains firsts least
  pub there : (w : ℕ) → Contains firsts w → (w ≡ least) ⊎ IsClass cells columns least most w
  pub back : (w : ℕ) → IsClass done columns least most w → Contains firsts w

-- the first widths of the span's classes
pub record AreFirsts (cells : List Cell) (columns : Span) (most : ℕ) (firsts : List ℕ) : Type 0 where
  pub rising : AllPairs (λ a b. a < b) firsts
  pub found : AreFound cells cells columns (least_among cells columns) most firsts

-- the first widths of the classes of each span, up to one of them
pub record AreClasses (cells : List Cell) (most : ℕ) (spans : List Span) (upto : ℕ) (classes : List (List ℕ)) : Type 0 where
  pub count : length classes ≡ upto
  pub each : (s : ℕ) → s < upto → AreFirsts cells (get_or spans s (span 0 0)) most (get_or classes s [])
