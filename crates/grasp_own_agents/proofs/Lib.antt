pub mod Calls
pub mod Exchanged
pub mod Turns
