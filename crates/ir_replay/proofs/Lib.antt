mod Reached
mod Going
mod Unmarked
mod Gathered
mod Dealt
mod Down
mod Below
mod AfterRound
pub mod CallerLemmas
