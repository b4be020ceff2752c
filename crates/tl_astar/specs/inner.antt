-- What the private functions promise one another. No public clause cites it.
pub mod Entries
pub mod Frontier
pub mod Lower
pub mod Rises
pub mod Searches
