pub mod Bytes
pub mod Leaving
pub mod Moments
pub mod Lefts
pub mod Stopping
mod Spoiling
