pub mod Cutting
pub mod Blocks
pub mod WholeInput
pub mod OutcomeLines
pub mod Moved
pub mod Runs
