pub mod Lines
pub mod CellPlaces
pub mod Drawing
