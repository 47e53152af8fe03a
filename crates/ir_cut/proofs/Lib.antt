mod Moved
mod Again
mod Sought
mod Needed
mod Listing
mod Searched
mod Stepping
mod Closed
mod Found
pub mod CallerLemmas
