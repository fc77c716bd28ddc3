pub mod Difference
pub mod Signed
pub mod BySign
pub mod Fitting
pub mod Tells
pub mod NoneOf
pub mod Calls
