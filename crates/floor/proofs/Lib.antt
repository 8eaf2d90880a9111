pub mod EntryLaws
pub mod TableLaws
pub mod RowLaws
pub mod FillLaws
pub mod Insertion
pub mod OrderLaws
pub mod JobTables
