pub mod Records
pub mod Refused
pub mod Columns
pub mod inner
