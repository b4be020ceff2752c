-- How a style is spelled, how far the columns and rows of a table stand apart, and what its outer edge takes.
use Rattle.std.specs.Prelude.{ℕ, List, codes, ◌≤◌, ◌+◌, ◌*◌}
use Rattle.tl_base.specs.declared.limits.TheConstants.{MAX_ROWS}
use Rattle.tl_base.specs.declared.spacing.Spacing.{Spacing}
use Rattle.tl_base.specs.declared.style.Style.{Style}
use Rattle.tl_base.specs.declared.style.Style.TheVariants.{Plain, Compact, Frame, Grid, Box, Rule, Apart}

-- how a style is spelled
abbrev pub style_word : Style → List ℕ
style_word Plain = codes "plain"
style_word Compact = codes "compact"
style_word Frame = codes "frame"
style_word Grid = codes "grid"
style_word Box = codes "box"
style_word Rule = codes "rule"
style_word Apart = codes "apart"

-- the columns between two columns of the table
abbrev pub gap_of : Style → ℕ
gap_of Plain = 2
gap_of Compact = 1
gap_of Frame = 1
gap_of Grid = 1
gap_of Box = 1
gap_of Rule = 1
gap_of Apart = 1

-- the lines between any two rows of the table
abbrev pub row_gap_of : Style → ℕ
row_gap_of Plain = 0
row_gap_of Compact = 0
row_gap_of Frame = 1
row_gap_of Grid = 1
row_gap_of Box = 1
row_gap_of Rule = 0
row_gap_of Apart = 0

-- the columns, and the lines, of each outer edge of the table
abbrev pub edge_of : Style → ℕ
edge_of Plain = 0
edge_of Compact = 0
edge_of Frame = 1
edge_of Grid = 1
edge_of Box = 1
edge_of Rule = 0
edge_of Apart = 0

-- the columns, and the lines, of both outer edges together
abbrev pub edges_of : Style → ℕ
edges_of style = 2 * edge_of style

-- how far columns and rows stand apart in this style, with so many lines beside the rows and the gaps between them
abbrev pub spacing_of : Style → ℕ → Spacing
spacing_of style lines = record { gap = gap_of style; row_gap = row_gap_of style; edges = edges_of style; lines = lines }

-- what every spacing keeps: columns stand apart, rows at most by a line, and what stands beside them is little
pub record IsSpacing (spacing : Spacing) : Type 0 where
  pub apart : 1 ≤ spacing.gap
  pub near : spacing.gap ≤ 2
  pub close : spacing.row_gap ≤ 1
  pub narrow : spacing.edges ≤ 2
  pub few : spacing.lines ≤ MAX_ROWS + 2
