pub mod Html
pub mod Alike
pub mod Readable
pub mod Laws
pub mod inner
