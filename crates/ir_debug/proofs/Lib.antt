mod Openings
mod Replying
mod Desks
mod Leading
mod LongLines
mod ReadThrough
mod Chosen
mod KeptCuts
mod CarriedOut
mod Rows
mod Guests
mod Passed
pub mod CallerLemmas
