-- What the private functions promise one another. No public clause cites these files.
pub mod OpenBlocks
pub mod Walk
pub mod States
pub mod Places
