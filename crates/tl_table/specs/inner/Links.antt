-- Why a cell is as wide as it is: its own width, or the chain of a table nested in it. No public clause cites this file.
use Rattle.std.specs.Prelude.{◌≡◌, ℕ, Some, Contains}
use Rattle.std.specs.List.{AllByRecursion}
use Rattle.tl_base.specs.declared.style.Style.{Style}
use Rattle.tl_table.specs.declared.cell.Content.{Content, out-Content}
use Rattle.tl_table.specs.declared.cell.Table.{Table, out-Table}
use Rattle.tl_table.specs.declared.narrow.Linked.{Linked}
use Rattle.tl_table.specs.Tables.{OpenCell, OpenContent, tables_of}
use Rattle.tl_table.specs.Least.{IsLeastWidth}
use Rattle.tl_table.specs.Chains.{HasWidth, IsChain}

-- the reason for the cell's width, as an entry and its chains give it
abbrev pub IsLinked : Style → OpenCell → ℕ → Linked → Type 0
IsLinked style cell width linked = HasWidth (λ table chains weight. IsChain table style chains weight) cell
    linked.inner (record { place = cell.place; width = width; inner = linked.chains })

-- a table that is the block has a chain of that weight
pub record IsLinkedBy (style : Style) (block : OpenContent) (width : ℕ) (linked : Linked) : Type 0 where
  pub nested : Table
  pub inside : Contains (tables_of block) nested
  pub named : linked.inner ≡ Some (out-Table nested).number
  pub chain : IsChain nested style linked.chains width

-- a table whose least width is known, and is not `w`
abbrev pub IsOther : Style → ℕ → Table → Type 0
IsOther style w table = (least : ℕ) × IsLeastWidth table style least × (least ≡ w → ⊥)

-- each table that is the block is such a one
abbrev pub AreOthers : Style → ℕ → Content → Type 0
AreOthers style w block = AllByRecursion (IsOther style w) (tables_of (out-Content block))
