pub mod Lists
pub mod SameTopics
pub mod Cache
pub mod Soundness
pub mod Memories
mod Earliest
pub mod Expiry
pub mod Searches
pub mod LawDiscoveries
