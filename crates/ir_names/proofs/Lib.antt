mod Back
pub mod CallerLemmas
mod Codes
mod Feeds
mod Grown
mod Put
mod Rows
mod Written
