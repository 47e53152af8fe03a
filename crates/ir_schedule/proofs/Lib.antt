mod Leaders
mod Words
mod Orders
mod Runs
mod Ready
mod Turns
mod Texts
pub mod CallerLemmas
