pub mod Exchange
pub mod Sent
pub mod Streams
pub mod Taking
