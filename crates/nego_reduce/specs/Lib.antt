pub mod Bound
pub mod Changed
pub mod Laws
pub mod Order
pub mod Reducing
pub mod Twins
