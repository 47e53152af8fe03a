mod Opens
mod Reached
mod TurnSoFar
mod Kept
mod Rows
mod Gone
mod Between
mod Marked
mod Meant
pub mod CallerLemmas
