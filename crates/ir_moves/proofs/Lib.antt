mod Brought
mod Keepers
mod Lower
mod Ways
