-- Laws of diagrams: their numbers, their readers and their conditions.
pub mod Negotiations
pub mod OneAtom
pub mod Readers
pub mod Undetermined
pub mod Conditions
pub mod OutcomeNumbers
