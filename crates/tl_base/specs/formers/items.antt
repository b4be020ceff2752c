-- The type of the module `items` through which a tree may hold itself.
pub mod List
