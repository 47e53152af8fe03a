pub mod Rows
pub mod Table
pub mod Nodes
pub mod Others
pub mod Places
pub mod Hashes
pub mod Words
