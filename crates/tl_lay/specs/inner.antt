-- What private functions promise each other. No public clause cites these files.
pub mod Certified
pub mod Claims
pub mod Files
pub mod Steps
pub mod Summaries
pub mod Tidying
