pub mod Shapes
pub mod Forming
pub mod Overlap
pub mod Dropping
pub mod Form
pub mod Slots
pub mod inner
