-- What the private functions promise one another. No public clause cites it.
pub mod reading
pub mod Areas
pub mod CertReading
pub mod Follows
pub mod Gives
pub mod Head
