mod Fresh
mod Giving
pub mod CallerLemmas
