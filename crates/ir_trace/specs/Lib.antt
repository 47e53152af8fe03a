pub mod Recorded
pub mod Bounds
pub mod Encoding
pub mod Fields
pub mod Results
pub mod Absent
