-- What private functions promise each other. No public clause cites this file.
pub mod CellSteps
pub mod Collecting
pub mod Naming
