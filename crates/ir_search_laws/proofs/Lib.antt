mod First
mod Rest
mod Closed
mod Finished
mod Within
mod Hangs
mod Looks
mod Opening
mod Every
mod Orders
mod Told
mod Maps
mod Sources
mod Views
mod Real
pub mod CallerLemmas
