pub mod Demo
pub mod Fits
pub mod inner
