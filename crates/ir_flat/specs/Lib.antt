pub mod Flat
pub mod Next
pub mod Alone
pub mod Laws
pub mod Splice
pub mod Replies
pub mod Trails
pub mod Room
