mod Forms
mod Fields
mod Block
mod Loop
mod Whole
mod Refused
mod Lowered
pub mod CallerLemmas
