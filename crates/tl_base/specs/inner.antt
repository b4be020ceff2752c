-- What the private functions promise one another. No public clause cites these files.
pub mod Stacking
