-- Of an acyclic diagram one atom is left exactly where it is sound.
pub mod GoingForward
pub mod ForwardUses
pub mod AcyclicWorks
pub mod LeastUses
pub mod ReducedWorks
pub mod AcyclicDecided
