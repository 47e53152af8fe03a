pub mod Hand
pub mod Replaying
