pub mod Passes
pub mod Workers
pub mod Rounds
pub mod Alone
