pub mod Pages
pub mod Keeping
pub mod Store
pub mod Gathered
