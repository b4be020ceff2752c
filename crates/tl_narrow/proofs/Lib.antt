pub mod Certifying
pub mod Beginning
pub mod Trying
pub mod Stepping
pub mod Laws
mod Examples
