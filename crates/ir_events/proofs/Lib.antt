mod Again
mod Ends
mod Listed
mod Passes
mod Joined
pub mod CallerLemmas
