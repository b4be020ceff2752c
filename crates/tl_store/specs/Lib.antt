pub mod Stores
pub mod Shrunk
pub mod inner
