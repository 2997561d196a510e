-- What a node's tables keep is in range.
pub mod Cache
pub mod Registry
pub mod Said
pub mod Sessions
pub mod Short
