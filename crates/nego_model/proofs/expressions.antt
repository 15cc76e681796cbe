-- Laws of what expressions mean, of the outcomes under them, and of what they read and change.
pub mod Nodes
pub mod Bases
pub mod Acting
