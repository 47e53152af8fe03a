pub mod Asking
pub mod Telling
pub mod Events
pub mod Answers
