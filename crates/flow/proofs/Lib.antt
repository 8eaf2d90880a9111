pub mod Update
pub mod Flow
pub mod Hops
pub mod Links
pub mod Augment
pub mod Line
pub mod Exchange
pub mod Loose
