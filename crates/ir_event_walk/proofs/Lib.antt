mod Lists
mod Still
mod Taken
mod Asked
mod Held
pub mod CallerLemmas
