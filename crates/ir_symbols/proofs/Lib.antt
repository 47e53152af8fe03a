mod Names
mod Counts
mod Ranges
mod Nearest
mod Found
mod Lines
mod OneSort
mod RoundTrip
