pub mod Learn
pub mod inner
