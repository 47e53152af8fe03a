pub mod Logging
pub mod Logged
pub mod Asked
