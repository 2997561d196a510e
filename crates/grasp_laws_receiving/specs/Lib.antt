pub mod Finding
pub mod Flags
pub mod Outcomes
pub mod Receiving
pub mod Recording
