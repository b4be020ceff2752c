-- The text of each number is a table that fits a page of `DEMO_WIDTH` columns. Six columns of at most eight letters,
-- with two columns between each two, take 58.
use Rattle.std.specs.Prelude.{ℕ, ◌^◌, ◌<◌, ◌≤◌, length}
use Rattle.tl_base.specs.declared.breaking.Breaking.TheVariants.{Words}
use Rattle.tl_base.specs.declared.limits.TheConstants.{MAX_FILE_BYTES}
use Rattle.tl_base.specs.declared.style.Style.TheVariants.{Plain}
use Rattle.tl_tree.specs.Spelling.{IsWithinLimits}
use Rattle.tl_tree.specs.Tags.{kinds}
use Rattle.tl_table.specs.declared.cell.Table.{Table}
use Rattle.tl_table.specs.declared.layout.Layout.{Layout}
use Rattle.tl_table.specs.Layouts.{Fits}
use Rattle.tl_table.specs.Spells.{Spells}
use Rattle.tl_demo.specs.declared.laws.TheConstants.{DEMO_WIDTH}
use Rattle.tl_demo.specs.Demo.{demo_text_of}

-- a number's text is a table file within all limits, and spells this table, of which a layout in style plain fits the page
pub record IsDemo (number : ℕ) (table : Table) : Type 0 where
  pub short : length (demo_text_of number) ≤ MAX_FILE_BYTES
  pub spelt : Spells (demo_text_of number) Words table
  pub within : IsWithinLimits (kinds spelt.tokens)
  pub height : ℕ
  pub layout : Layout
  pub fits : Fits table Plain DEMO_WIDTH height layout

-- the table of each number fits the page of a demonstration
abbrev pub DemoFits : Type 0
DemoFits = (number : ℕ) → number < 2 ^ 32 → (table : Table) × IsDemo number table
