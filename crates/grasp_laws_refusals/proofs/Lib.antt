mod Acts
mod Calls
mod Found
mod Least
pub mod Refusals
