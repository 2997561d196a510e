pub mod Calls
pub mod Guests
mod Lists
pub mod Orders
pub mod Rounds
mod Seated
mod Seats
mod Sessions
mod Sittings
pub mod Taken
