mod Examples
pub mod Shares
pub mod Numbers
pub mod Valid
pub mod Given
pub mod Open
pub mod Known
pub mod Decisions
