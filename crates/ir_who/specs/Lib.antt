pub mod Versions
pub mod Lines
pub mod FitLines
