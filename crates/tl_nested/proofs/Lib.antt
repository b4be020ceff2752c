pub mod Ready
pub mod Written
mod Counted
mod Made
mod SameSteps
mod ByDepth
mod InOrder
mod Widths
