pub mod Scan
pub mod Wrote
pub mod DigitTable
pub mod Rest
