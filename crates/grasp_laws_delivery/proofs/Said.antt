-- What is said on a stream is sent or queued.
pub mod Networks
pub mod Steps
pub mod Talks
