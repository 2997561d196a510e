mod Blanks
pub mod Heads
mod Looking
pub mod Starting
