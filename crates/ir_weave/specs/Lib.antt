pub mod Stepping
pub mod Laws
pub mod Standing
pub mod Ahead
pub mod Table
pub mod Woven
