pub mod Calls
pub mod Guests
pub mod Knowing
pub mod Logs
pub mod Orders
pub mod Rounds
pub mod Taken
