-- Which layouts a page can be written in, which bytes are the page, and what it is for them to read back.
use Rattle.std.specs.Prelude.{◌≡◌, ℕ, zero, suc, List, length, IsUtf8, chars}
use Rattle.std.specs.List.{AllZip}
use Rattle.tl_base.specs.declared.breaking.Breaking.{Breaking}
use Rattle.tl_tree.specs.Sound.{IsSound as IsSoundTree}
use Rattle.tl_tree.specs.declared.node.TableNode.{TableNode}
use Rattle.tl_table.specs.declared.cell.Table.{Table, out-Table}
use Rattle.tl_table.specs.declared.layout.Layout.{Layout, out-Layout}
use Rattle.tl_table.specs.Formed.{Becomes}
use Rattle.tl_table.specs.Layouts.{OpenLayout}
use Rattle.tl_table.specs.Sound.{IsSound}
use Rattle.tl_table.specs.Spells.{Spells}
use Rattle.tl_table.specs.Tables.{OpenTable, inner_tables}
use Rattle.tl_html.specs.Alike.{AreAlike}
use Rattle.tl_html.specs.Html.{html_of}

-- a width for each column, and a layout for each table nested directly, where `has` says so of each
pub record HasColumnsBy (has : Table → Layout → Type 0) (table : OpenTable) (layout : OpenLayout) : Type 0 where
  pub columns : length layout.widths ≡ table.cols
  pub inner : AllZip has (inner_tables table) layout.inner

-- a width for each column of a table with fewer than `depth` tables inside one another, and of each table nested in it
abbrev pub HasColumnsWithin : ℕ → Table → Layout → Type 0
HasColumnsWithin zero table layout = ⊥
HasColumnsWithin (suc depth) table layout = HasColumnsBy (HasColumnsWithin depth) (out-Table table) (out-Layout layout)

-- the layout has a width for each column of the table and of the tables nested in it
abbrev pub HasColumns : Table → Layout → Type 0
HasColumns table layout = (depth : ℕ) × HasColumnsWithin depth table layout

-- the bytes are the HTML page: UTF-8, of its characters
abbrev pub IsHtmlPage : Table → Layout → List ℕ → Type 0
IsHtmlPage table layout bytes = IsUtf8 bytes × (chars bytes ≡ html_of table layout)

-- the bytes spell the same table, but for the numbers of tables and their `thead` groups
abbrev pub SpellsAlike : List ℕ → Breaking → Table → Type 0
SpellsAlike bytes breaking table = (other : Table) × Spells bytes breaking other × AreAlike table other

-- the bytes spell the table again, if it is sound and the layout has a width for each column: by whatever breaking it is sound
abbrev pub ReadsBack : Table → Layout → List ℕ → Type 0
ReadsBack table layout bytes = (sound : IsSound table) → HasColumns table layout → SpellsAlike bytes sound.breaking table

-- whatever sound tree becomes the table, and by whatever breaking, the bytes spell the table again by that breaking, if
-- the layout has a width for each column
abbrev pub ReadsBackAsFormed : Table → Layout → List ℕ → Type 0
ReadsBackAsFormed table layout bytes = (breaking : Breaking) (node : TableNode) → IsSoundTree node →
    Becomes breaking node table →
    HasColumns table layout → SpellsAlike bytes breaking table
