pub mod AskLemmas
mod Examples
pub mod ListLemmas
pub mod SideLemmas
pub mod NameLemmas
pub mod OptionLemmas
pub mod SplitLemmas
pub mod WordLemmas
