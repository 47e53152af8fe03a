mod Behind
mod Before
mod Onward
mod Results
mod Unique
mod Trails
mod Forth
mod Entries
mod Words
mod Moves
mod Acts
mod Lone
mod Numbers
mod Ended
mod Seats
mod Steps
mod Opening
pub mod CallerLemmas
