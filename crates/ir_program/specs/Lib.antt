pub mod Bundle
pub mod Connecting
pub mod Doing
pub mod Leaving
pub mod Named
pub mod Refused
pub mod Serving
pub mod Taking
