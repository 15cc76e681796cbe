pub mod Events
pub mod Roomy
pub mod WorldView
pub mod Stepping
pub mod Laws
