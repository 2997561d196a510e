pub mod Expiry
pub mod InWords
pub mod Moves
pub mod Sample
pub mod Turns
pub mod Unstepped
