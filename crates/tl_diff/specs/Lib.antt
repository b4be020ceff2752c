pub mod Bounds
pub mod inner
pub mod Marks
pub mod Paths
