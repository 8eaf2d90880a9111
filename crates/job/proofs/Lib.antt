pub mod BitLaws
pub mod Lists
pub mod Triangle
pub mod Tested
