pub mod Readings
pub mod ByLookup
pub mod Order
