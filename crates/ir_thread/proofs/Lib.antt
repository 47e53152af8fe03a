mod Highest
mod Asked
mod Lawful
mod Alone
mod PrivateRuns
mod Unmarked
mod Conditions
mod Framed
mod Words
pub mod CallerLemmas
