pub mod Flow
pub mod Update
pub mod Way
pub mod Line
pub mod Exchange
pub mod Loose
