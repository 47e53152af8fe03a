mod Given
mod InParts
mod Putting
mod ReadFiles
mod Shown
mod Standing
pub mod CallerLemmas
