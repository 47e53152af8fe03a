pub mod Sections
pub mod Symbols
