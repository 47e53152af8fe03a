mod Cuts
mod Replies
mod Hearing
mod Exits
mod Writing
pub mod CallerLemmas
