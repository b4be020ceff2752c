mod Examples
pub mod Order
pub mod Good
pub mod Fires
pub mod ZoneLines
pub mod Zones
pub mod Joined
pub mod Learnings
pub mod Closing
pub mod Walk
pub mod Ends
pub mod PieceLaws
