mod Room
mod Steps
