pub mod Answers
pub mod Writing
pub mod Nexts
pub mod Endings
pub mod Wrapped
pub mod Written
