pub mod Hits
pub mod Seeing
pub mod Searching
pub mod Passing
pub mod Watchable
