pub mod Endings
pub mod Exchanged
pub mod Replies
pub mod inner
