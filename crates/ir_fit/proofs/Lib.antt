mod Guests
mod Furthest
mod Placements
mod Seen
mod Placed
mod Moves
mod ByVersion
mod PartlyListed
mod Listed
mod Found
mod Recordable
pub mod CallerLemmas
mod Passed
