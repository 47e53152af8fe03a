pub mod Events
pub mod Walk
pub mod Lines
pub mod Texts
pub mod Laws
