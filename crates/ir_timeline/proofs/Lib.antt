mod Ends
mod Searches
