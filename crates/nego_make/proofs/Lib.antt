mod Steps
mod Names
mod Moves
mod OutcomeKinds
pub mod Conditions
pub mod Edges
mod Lanes
pub mod SoundMade
mod NameWords
pub mod GoodLines
pub mod PrintedMade
