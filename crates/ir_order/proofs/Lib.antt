mod Given
mod Alike
mod OneRun
mod Items
mod Lists
mod Traces
mod Recorded
mod Complete
pub mod CallerLemmas
