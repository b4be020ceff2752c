pub mod AnyDepth
pub mod Arcs
pub mod FewCells
pub mod ChainDepths
pub mod ChainLaws
pub mod Deeper
pub mod Duality
mod Examples
mod Lowest
pub mod Found
pub mod LeastRoomLemmas
pub mod LeastWidths
pub mod LinkLemmas
pub mod OwnWidths
pub mod Rooms
pub mod Rows
pub mod SizesOpen
pub mod Sorted
pub mod SoundParts
pub mod SoundBy
pub mod Widths
pub mod TreeParts
pub mod SoundNodes
pub mod Becoming
pub mod Gridless
pub mod HeadLaws
mod HeadExamples
pub mod Writing
pub mod Formed
pub mod SpellableTables
pub mod SpeltBlocks
pub mod SoundFormed
pub mod OneTable
pub mod Numbered
pub mod OneFile
pub mod Orders
pub mod Laid
pub mod UnitSizes
pub mod Blocks
pub mod NumbersOpen
pub mod SoundCounts
pub mod TableNumbers
pub mod InnerNumbers
pub mod NumberLemmas
mod SameExamples
mod Unsound
pub mod SameTables
pub mod SameHeads
pub mod SameFits
pub mod SameChains
pub mod SameShapes
