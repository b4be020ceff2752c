mod Examples
mod LogExamples
mod PieceExamples
pub mod Firing
pub mod GoodLines
pub mod Writable
mod TraceLogLaws
mod Cuts
mod ZoneLists
mod FewSpans
pub mod Opening
pub mod OrderLaws
pub mod ArenaLaws
pub mod Agreeing
pub mod EndLaws
mod TraceEndLaws
pub mod WalkLaws
pub mod PieceLaws
