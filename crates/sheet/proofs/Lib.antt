pub mod Fields
pub mod Calls
pub mod Chokes
pub mod Turns
pub mod Exits
pub mod Whole
pub mod Rides
