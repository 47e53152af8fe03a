pub mod Cuts
pub mod Commands
