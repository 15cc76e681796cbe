-- Laws of markings, occurrences and runs, and of the joint data along them.
pub mod Markings
pub mod Steps
pub mod Joined
pub mod Reached
pub mod CompleteRuns
pub mod Proper
pub mod ReachedMarkings
pub mod Ways
pub mod Gathered
pub mod Commuting
pub mod Neighbours
pub mod Projections
pub mod Histories
pub mod Followed
pub mod MarkingArrays
