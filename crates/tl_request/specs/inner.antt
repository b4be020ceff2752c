-- What private functions promise each other. No public clause cites these files.
pub mod Headings
