pub mod Certified
pub mod Slimmest
pub mod Slims
pub mod Trials
pub mod SlimLaws
pub mod inner
