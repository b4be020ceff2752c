mod Examples
pub mod Headings
pub mod Words
pub mod Arriving
