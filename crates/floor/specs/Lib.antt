pub mod Tables
pub mod Order
pub mod Made
