pub mod Lines
pub mod Passing
pub mod Scripts
pub mod Tallies
pub mod Written
