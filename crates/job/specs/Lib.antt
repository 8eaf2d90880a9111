pub mod Bits
pub mod Lists
pub mod Held
pub mod Items
