pub mod Lines
pub mod Table
pub mod Reading
