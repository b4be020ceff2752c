-- What the private functions promise one another. No public clause cites these files.
pub mod Lines
pub mod Machine
pub mod Verdict
pub mod Atoms
pub mod Stops
pub mod Reading
pub mod Documents
