pub mod Path
pub mod Again
pub mod Along
pub mod Shown
pub mod Explored
pub mod Hang
pub mod Exploring
