pub mod Things
pub mod Lines
pub mod Naming
pub mod Taken
pub mod Words
pub mod Sinks
