pub mod Basis
pub mod Frozen
pub mod Thawed
pub mod Twins
