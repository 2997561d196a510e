mod Attending
mod Entries
mod Pigeons
pub mod Networks
