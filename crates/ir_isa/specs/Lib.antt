pub mod Fields
pub mod Code
pub mod Rows
pub mod Decoded
pub mod Words
pub mod Even
pub mod Immediates
pub mod Ranges
