mod View
mod Same
mod Start
mod Guests
pub mod CallerLemmas
