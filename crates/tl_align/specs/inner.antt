-- What private functions promise each other. No public clause cites this file.
pub mod Tallies
