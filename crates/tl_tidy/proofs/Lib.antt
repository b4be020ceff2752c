mod Examples
pub mod Deciding
pub mod BoundsExist
pub mod Vectors
pub mod Parts
pub mod NeedLaws
pub mod WalkLaws
