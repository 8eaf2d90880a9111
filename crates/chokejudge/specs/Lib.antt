pub mod Members
pub mod Points
pub mod ChokeLayers
pub mod Grown
pub mod Lifts
pub mod Chains
