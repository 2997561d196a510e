pub mod Adding
pub mod Crosses
pub mod Keeps
pub mod Prefixes
pub mod Sums
pub mod Turns
