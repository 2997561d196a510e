pub mod Room
pub mod Topic
pub mod Discoveries
pub mod Laws
