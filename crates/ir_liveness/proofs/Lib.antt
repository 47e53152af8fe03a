mod Places
mod Anywhere
mod Marked
mod Swept
mod Registers
mod Steps
mod Instructions
mod Calls
mod Threads
mod Agreement
pub mod CallerLemmas
