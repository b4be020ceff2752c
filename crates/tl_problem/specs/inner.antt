-- What the private functions promise one another. No public clause cites it.
pub mod Agreeing
pub mod Axes
pub mod Constraints
pub mod Demands
pub mod Least
pub mod Needs
pub mod Parts
pub mod Soundness
pub mod Spanning
