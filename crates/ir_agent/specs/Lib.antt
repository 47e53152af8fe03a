pub mod Operations
pub mod Arithmetic
pub mod Evaluation
