pub mod Arrived
mod Examples
pub mod Turning
