mod Loop
mod Joined
mod Room
mod Taken
mod EventLaws
mod Whole
mod Refused
mod Telling
mod Limits
pub mod CallerLemmas
