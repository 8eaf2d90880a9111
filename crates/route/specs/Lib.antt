pub mod Stack
pub mod Lay
pub mod Finds
pub mod Search
pub mod Serve
