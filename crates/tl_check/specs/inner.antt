-- What the private functions promise one another. No public clause cites it.
pub mod Matrices
pub mod Zones
pub mod Firing
pub mod Traces
