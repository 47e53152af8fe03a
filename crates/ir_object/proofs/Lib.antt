mod Stands
mod Order
mod Words
pub mod CallerLemmas
