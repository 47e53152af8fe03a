mod Puts
mod Begun
mod Holding
mod Built
mod Noted
mod Walked
mod Joined
