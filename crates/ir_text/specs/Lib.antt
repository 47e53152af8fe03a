pub mod Texts
pub mod Buffered
pub mod Held
pub mod Parts
