mod Writes
mod Causes
mod Tables
mod Logs
mod Far
mod Breaks
pub mod CallerLemmas
