mod Lists
mod Marking
mod Runs
mod Keeping
mod Operations
mod Meaning
mod Pages
mod Words
pub mod CallerLemmas
