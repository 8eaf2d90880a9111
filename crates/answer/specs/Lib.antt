pub mod Cut
pub mod Trail
pub mod Spares
pub mod Full
