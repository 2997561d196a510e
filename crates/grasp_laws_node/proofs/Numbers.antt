-- A node draws numbers that it doesn't use, and keeps them its own.
pub mod Moves
pub mod Used
pub mod Own
