pub mod AtMostLemmas
pub mod BoundLaws
pub mod ChainLemmas
pub mod EnvelopeLemmas
mod Examples
pub mod GapLemmas
pub mod ImproveLemmas
pub mod PathLaws
pub mod PathLemmas
pub mod RowLemmas
pub mod InsertionLemmas
