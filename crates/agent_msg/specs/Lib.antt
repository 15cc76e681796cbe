pub mod Bytes
pub mod Messages
pub mod Records
pub mod Shares
