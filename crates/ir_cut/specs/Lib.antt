pub mod Laws
pub mod Positions
pub mod Moving
pub mod Searching
