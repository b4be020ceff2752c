pub mod CsvLists
pub mod WordSizes
pub mod OneError
pub mod OneTable
pub mod Placed
pub mod Slots
pub mod TextCells
pub mod PlainWords
pub mod SpellableCells
pub mod Soundness
mod Examples
