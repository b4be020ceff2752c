pub mod Ask
pub mod Command
pub mod Options
pub mod inner
