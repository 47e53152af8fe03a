mod Again
mod Cut
mod Decimal
mod Escapes
mod Kept
mod Pieces
mod Written
pub mod CallerLemmas
mod Rows
mod Only
mod Conditions
