pub mod Entries
pub mod Facts
pub mod SameKeys
pub mod Soundness
mod Earliest
pub mod Expiry
pub mod LawFloods
