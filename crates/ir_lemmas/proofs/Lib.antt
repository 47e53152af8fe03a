mod Bools
mod Lists
mod Results
pub mod CallerLemmas
