mod Suiting
pub mod CallerLemmas
