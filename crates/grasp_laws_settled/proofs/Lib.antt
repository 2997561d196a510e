pub mod Answering
pub mod Resolved
