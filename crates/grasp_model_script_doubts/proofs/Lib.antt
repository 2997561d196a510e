pub mod MoreLines
pub mod OneEvent
pub mod OneRun
pub mod Safely
