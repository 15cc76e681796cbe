pub mod Law
pub mod Passing
