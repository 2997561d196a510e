-- What the answers of a node's calls mean.
pub mod Acts
pub mod Declines
pub mod Leaving
pub mod Registry
pub mod Requests
pub mod Said
pub mod Searches
