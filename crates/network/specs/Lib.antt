pub mod Graph
pub mod Stuck
pub mod Traced
pub mod Stand
pub mod Store
pub mod Links
pub mod Holds
pub mod Keeping
