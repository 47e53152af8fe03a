pub mod Calls
pub mod Words
pub mod Route
