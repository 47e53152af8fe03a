mod Counting
mod Known
mod Steps
mod Seats
mod Ending
pub mod CallerLemmas
