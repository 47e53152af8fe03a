pub mod Guest
pub mod Bounds
pub mod Lowering
pub mod Encoding
pub mod Fields
pub mod Results
pub mod Padded
