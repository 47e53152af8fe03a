pub mod Machine
pub mod Debugging
pub mod Openings
pub mod Session
pub mod AtHand
