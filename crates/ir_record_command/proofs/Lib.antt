mod Fresh
mod Items
mod Numerals
mod Parts
mod Printed
mod Reported
pub mod CallerLemmas
