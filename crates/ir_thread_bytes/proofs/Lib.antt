mod Written
mod Apart
mod Kept
mod Back
mod Alike
pub mod CallerLemmas
