pub mod SolveLaws
pub mod SolveParts
pub mod Sheets
