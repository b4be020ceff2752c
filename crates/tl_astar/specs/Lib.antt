pub mod Best
pub mod Laws
pub mod inner
