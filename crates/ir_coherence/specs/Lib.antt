pub mod Breaking
pub mod Counting
pub mod Laws
pub mod Before
