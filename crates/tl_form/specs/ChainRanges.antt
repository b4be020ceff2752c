-- The numbers of a table's chains are within the ranges of a certificate's text.
use Rattle.std.specs.Prelude.{ℕ, ◌≤◌, List, length}
use Rattle.std.specs.List.{AllByRecursion}
use Rattle.tl_base.specs.declared.style.Style.{Style}
use Rattle.tl_cert.specs.Text.{IsChainWritable}
use Rattle.tl_base.specs.declared.chain.Chain.{Chain}
use Rattle.tl_table.specs.declared.cell.Table.{Table}
use Rattle.tl_table.specs.Chains.{IsChain}
use Rattle.tl_table.specs.FewCells.{HasFewCells}
use Rattle.tl_table.specs.Sound.{IsSound}

-- each chain of a sound table with few cells, with those that it rests on, can be written
abbrev pub ChainsAreWritable : Type 0
ChainsAreWritable = (table : Table) (style : Style) (chains : List Chain) (weight : ℕ) → IsSound table → HasFewCells table →
    IsChain table style chains weight → (1 ≤ length chains) × AllByRecursion IsChainWritable chains
