pub mod Spans
pub mod Held
pub mod Open
pub mod Heights
pub mod Stops
pub mod Needing
pub mod Schedules
pub mod Checks
