pub mod Accepted
pub mod Forgetting
