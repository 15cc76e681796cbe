-- Negotiations that do what others do.
pub mod Simulations
pub mod Alike
