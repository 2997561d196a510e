pub mod Heads
pub mod Starting
