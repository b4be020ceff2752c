pub mod Classes
pub mod Needs
pub mod Choices
pub mod Laws
pub mod inner
