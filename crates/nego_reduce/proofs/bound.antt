-- How many uses the order makes, and how many nodes.
pub mod CountedUses
pub mod SummedOutcomes
pub mod PassedSets
pub mod Measures
pub mod NextUsesLower
pub mod FewUses
pub mod AliveOutcomes
pub mod NodesMade
pub mod FewNodes
pub mod CountedNodes
