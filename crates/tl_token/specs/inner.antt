-- What private functions promise each other. No public clause cites these files.
pub mod States
pub mod Reading
pub mod Reader
pub mod Found
pub mod Output
