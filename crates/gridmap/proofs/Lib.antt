pub mod FloorLaws
pub mod LetterLaws
pub mod Lines
pub mod RowLines
pub mod RowWalk
pub mod TrackLaws
pub mod Whole
