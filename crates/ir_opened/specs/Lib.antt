pub mod Opened
pub mod Answers
pub mod Positions
pub mod Paired
