-- Types of this crate through which a tree may hold itself.
pub mod items
