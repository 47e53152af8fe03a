pub mod Common
pub mod Progress
pub mod Lines
