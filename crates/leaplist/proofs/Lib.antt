pub mod OneAfterOther
pub mod LineStarts
pub mod Lengths
pub mod Reports
pub mod SinceLines
pub mod Calls
