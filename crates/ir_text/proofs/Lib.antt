mod RegisterNames
mod Lines
mod ThreadLines
mod Releases
mod BytesFrom
mod Buffers
mod Insides
mod Rows
pub mod CallerLemmas
