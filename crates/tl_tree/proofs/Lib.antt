mod Moves
mod MachineWhole
mod MachineSound
mod Depths
mod Verdicts
pub mod Lines
pub mod Outlines
pub mod Adds
mod Readings
mod FineMoves
mod FineMarks
mod EntrySizes
pub mod SameTrees
mod Documents
mod Soundness
pub mod ReadableTokens
mod Examples
