mod Finding
mod Flags
mod Outcomes
pub mod Receiving
mod Recording
