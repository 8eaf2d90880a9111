pub mod Verdicts
pub mod MapVerdicts
pub mod Rule3
