-- What private functions promise each other. No public clause cites this file.
pub mod Depths
pub mod Found
pub mod SoFar
