mod Same
mod Split
mod RowLaws
mod Unique
mod DecodedLaws
mod WordLaws
pub mod CallerLemmas
