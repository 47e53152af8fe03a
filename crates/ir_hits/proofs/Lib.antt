pub mod CallerLemmas
mod Leaves
mod Hitting
mod Windows
mod Standing
mod Seen
mod Onward
mod Marks
mod Passing
