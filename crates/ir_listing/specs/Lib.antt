pub mod Code
pub mod Events
