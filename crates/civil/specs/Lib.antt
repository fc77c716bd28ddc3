pub mod Fields
pub mod Real
