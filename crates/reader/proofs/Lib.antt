pub mod Tests
pub mod Noted
pub mod Entries
pub mod Words
pub mod Scans
pub mod Turns
