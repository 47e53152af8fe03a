pub mod Symbols
pub mod Tables
pub mod Names
pub mod Maps
