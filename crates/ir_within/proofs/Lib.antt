mod First
mod Firsts
mod Compared
mod Kept
mod Lines
mod Marks
mod Meaning
