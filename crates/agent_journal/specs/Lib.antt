pub mod Journal
pub mod Slots
