mod Coherent
mod Leaves
mod Left
mod Paired
mod Shown
pub mod CallerLemmas
