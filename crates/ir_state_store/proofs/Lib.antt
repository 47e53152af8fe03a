mod Lists
mod Packs
mod Rowed
mod Shared
mod Looks
mod Stored
mod Placed
pub mod CallerLemmas
mod Found
mod Alike
mod Numbered
