pub mod Listed
pub mod Image
