pub mod Covered
mod Opened
mod Items
mod Places
mod Blocks
mod Shares
mod RoundLaws
mod Orders
mod Endings
mod Examples
