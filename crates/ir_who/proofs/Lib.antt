mod Shown
mod Listed
mod Within
pub mod CallerLemmas
