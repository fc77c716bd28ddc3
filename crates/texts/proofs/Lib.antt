pub mod LineEnds
pub mod FirstLine
