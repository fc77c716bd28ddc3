pub mod OneAnswer
pub mod Numbered
pub mod Tells
pub mod Steps
pub mod Given
pub mod Calls
