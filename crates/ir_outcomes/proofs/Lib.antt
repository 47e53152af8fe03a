mod Paths
mod Again
mod Showing
mod Listed
mod Steps
mod Ends
mod Lost
mod Onwards
mod Arriving
mod Along
pub mod CallerLemmas
