pub mod Flow
pub mod Live
pub mod Agreement
pub mod Table
pub mod Marks
pub mod Ways
