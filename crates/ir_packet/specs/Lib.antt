pub mod Packets
pub mod Stream
pub mod Parts
pub mod Reading
pub mod Numbers
pub mod Requests
pub mod Replies
