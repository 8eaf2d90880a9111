pub mod Steps
pub mod LineLaws
pub mod Numbers
pub mod FieldDigits
pub mod Powers
pub mod Wrote
pub mod Table
