mod Found
mod Parts
mod Recorded
mod Restarting
mod Seeking
mod Stopping
pub mod CallerLemmas
