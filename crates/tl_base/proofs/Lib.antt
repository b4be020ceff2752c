mod Examples
pub mod Decimals
pub mod Decreasing
pub mod Members
pub mod MemoryDesks
pub mod Options
pub mod SizeLaws
pub mod Stacking
pub mod Sums
pub mod Taken
pub mod Texts
pub mod Zips
