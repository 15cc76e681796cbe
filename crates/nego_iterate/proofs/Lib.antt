pub mod IterateKeeps
pub mod Iterates
pub mod Repeating
