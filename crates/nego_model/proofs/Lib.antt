pub mod occurrence
pub mod expressions
pub mod simulation
pub mod diagrams
pub mod completeness
mod Examples
