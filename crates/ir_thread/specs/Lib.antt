pub mod State
pub mod Frames
pub mod Alone
pub mod Private
pub mod Conditions
pub mod Permitted
pub mod Closing
