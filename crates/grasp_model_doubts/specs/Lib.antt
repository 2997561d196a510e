pub mod Answered
pub mod Events
pub mod Openings
pub mod Runs
pub mod Steps
pub mod World
