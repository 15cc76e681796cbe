-- What a sound negotiation comes to.
pub mod Ranks
pub mod Paths
pub mod Counting
pub mod Policies
pub mod Nearest
pub mod OneWayOut
pub mod EdgeWays
pub mod Rounds
pub mod Domination
pub mod Waiting
pub mod Sweeping
pub mod Branching
pub mod Closable
