mod Steps
mod Numbers
mod Fields
mod Loop
mod Refused
pub mod CallerLemmas
