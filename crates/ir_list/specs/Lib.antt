pub mod Listing
pub mod Outcomes
