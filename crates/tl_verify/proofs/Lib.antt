pub mod Judging
pub mod Ordering
pub mod AllJudged
pub mod OneChain
pub mod Walking
pub mod OneVerdict
