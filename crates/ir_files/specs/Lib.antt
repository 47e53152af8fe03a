pub mod Given
pub mod Outputs
pub mod Places
pub mod Shown
pub mod Statuses
pub mod Writers
