pub mod Asking
pub mod Calls
pub mod Questions
pub mod Replies
pub mod Seeing
pub mod States
pub mod Stored
