-- Laws of tables, layouts and chains. Each is the contract of a function of `laws`.
use Rattle.std.specs.Prelude.{◌≡◌, ℕ, ◌+◌, ◌<◌, ◌≤◌, List}
use Rattle.std.specs.List.{AllByRecursion}
use Rattle.tl_base.specs.declared.breaking.Breaking.{Breaking}
use Rattle.tl_base.specs.declared.style.Style.{Style}
use Rattle.tl_grid.specs.declared.error.GridError.{GridError}
use Rattle.tl_base.specs.declared.chain.Chain.{Chain}
use Rattle.tl_tree.specs.Sound.{IsSound as IsSoundTree}
use Rattle.tl_tree.specs.declared.node.TableNode.{TableNode}
use Rattle.tl_table.specs.declared.cell.Table.{Table, out-Table}
use Rattle.tl_table.specs.declared.layout.Layout.{Layout}
use Rattle.tl_table.specs.Chains.{IsChain}
use Rattle.tl_table.specs.Formed.{Becomes}
use Rattle.tl_table.specs.Heads.{caption_height, head_end}
use Rattle.tl_table.specs.Layouts.{Fits}
use Rattle.tl_table.specs.Refused.{HasSomeGrid, IsFirstWithoutGrid, numbered_shapes}
use Rattle.tl_table.specs.Same.{AreSame}
use Rattle.tl_table.specs.Sound.{IsSound, nested_in_table}
use Rattle.tl_table.specs.Spellable.{IsSpellable}
use Rattle.tl_table.specs.Spells.{Spells}
use Rattle.tl_table.specs.Tables.{IsAmong, places_of}

-- a file spells at most one table for each breaking
abbrev pub FileSpellsOneTable : Type 0
FileSpellsOneTable = (bytes : List ℕ) (breaking : Breaking) (one other : Table) → Spells bytes breaking one →
    Spells bytes breaking other → AreSame one other

-- no page that a layout fits is narrower than a chain weighs
abbrev pub NoPageIsNarrowerThanAChain : Type 0
NoPageIsNarrowerThanAChain = (table : Table) (style : Style) (chains : List Chain) (weight width height : ℕ) (layout : Layout) →
    IsSound table → IsChain table style chains weight → Fits table style width height layout → weight ≤ width

-- the first table of a sound tree without a grid is the first by number: each of a lesser number has one
abbrev pub TheFirstHasTheLeastNumber : Type 0
TheFirstHasTheLeastNumber = (node : TableNode) (number : ℕ) (cause : GridError) → IsSoundTree node →
    IsFirstWithoutGrid (numbered_shapes node) number cause →
    AllByRecursion (λ table. table.number < number → HasSomeGrid table) (numbered_shapes node)

-- each number from the table's own on, up to that of the last table inside, is that of one table
abbrev pub EachNumberIsOfOneTable : Type 0
EachNumberIsOfOneTable = (table : Table) → IsSound table →
    ((n : ℕ) → (out-Table table).number ≤ n → n ≤ (out-Table table).number + nested_in_table table →
    (one : Table) × IsAmong table one × ((out-Table one).number ≡ n))
    × ((one other : Table) → IsAmong table one → IsAmong table other →
    (out-Table one).number ≡ (out-Table other).number → one ≡ other)

-- each table that a sound tree becomes is sound, and a file can spell it by the same breaking
abbrev pub FormedTablesAreSound : Type 0
FormedTablesAreSound = (breaking : Breaking) (node : TableNode) (table : Table) → IsSoundTree node →
    Becomes breaking node table → IsSound table × IsSpellable breaking table

-- the head ends within the table and not above its caption's row, and no cell begins in a row above that end and reaches below
abbrev pub NoCellCrossesTheHead : Type 0
NoCellCrossesTheHead = (table : Table) → IsSound table → (head_end table ≤ (out-Table table).rows)
    × (caption_height table ≤ head_end table)
    × AllByRecursion (λ place. place.top < head_end table → place.bottom ≤ head_end table) (places_of (out-Table table))
