pub mod Desk
pub mod Places
