pub mod Checkers
pub mod Matrices
pub mod Verdicts
pub mod inner
