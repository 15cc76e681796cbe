pub mod Answers
pub mod Rows
pub mod Kept
pub mod Begun
pub mod Asked
pub mod Frames
pub mod Making
