pub mod CallerLemmas
mod Counted
mod Explored
mod Kept
mod Listed
mod Made
mod Outsides
mod Printed
mod Refused
mod Searched
mod Stored
mod Versions
mod Written
mod Asked
