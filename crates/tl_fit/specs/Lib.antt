pub mod Fit
pub mod inner
pub mod Units
