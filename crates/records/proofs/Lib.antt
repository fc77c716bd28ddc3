pub mod OrElse
pub mod AllRecords
pub mod OneMore
pub mod KeptValid
pub mod Kept
