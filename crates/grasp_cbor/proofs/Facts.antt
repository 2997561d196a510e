-- Small facts that several crates use, by what they are about.
pub mod Bools
pub mod Lists
pub mod Numbers
pub mod Options
