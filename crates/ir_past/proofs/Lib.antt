mod Open
mod Rows
mod Noted
mod Tables
mod Totals
mod Written
mod Shown
mod Reading
mod ReadTables
mod Returning
mod Leaving
pub mod CallerLemmas
