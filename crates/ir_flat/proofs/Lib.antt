mod Kept
mod Next
mod Keeps
mod Fresh
mod Runs
mod Alone
mod Counted
mod Splice
mod Replies
mod Lone
mod Bounded
pub mod CallerLemmas
mod Renewed
