pub mod Form
pub mod Parts
