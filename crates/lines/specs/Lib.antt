pub mod Lines
pub mod OutcomeLine
pub mod Pieces
pub mod Places
pub mod Streams
