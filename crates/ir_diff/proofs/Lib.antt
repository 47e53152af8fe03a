mod Told
mod Parts
mod Needed
mod ThreadTexts
mod Written
mod Statuses
