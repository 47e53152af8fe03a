pub mod Assembling
pub mod Converting
pub mod Mapping
pub mod Opening
