pub mod Below
pub mod Checkpoints
pub mod Parts
