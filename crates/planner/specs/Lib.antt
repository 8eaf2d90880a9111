pub mod Solved
pub mod Written
