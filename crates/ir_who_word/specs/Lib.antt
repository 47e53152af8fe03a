pub mod Words
pub mod Track
pub mod Lines
