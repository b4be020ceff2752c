pub mod Arranged
pub mod Progress
pub mod Question
