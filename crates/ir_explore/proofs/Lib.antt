mod Answered
mod Fulfilled
mod Hits
mod Joined
mod Sought
mod Printed
mod Recorded
mod Untimed
pub mod CallerLemmas
