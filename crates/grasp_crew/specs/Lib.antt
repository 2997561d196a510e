pub mod Herald
pub mod Listener
pub mod Nudges
pub mod Seats
pub mod Servants
pub mod Steward
pub mod Trying
