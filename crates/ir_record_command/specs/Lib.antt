pub mod Faults
pub mod Images
pub mod Numerals
pub mod Order
pub mod Plan
pub mod Recording
pub mod Stopping
