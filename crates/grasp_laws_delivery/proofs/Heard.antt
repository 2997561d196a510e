-- What is heard on a stream was said on it.
pub mod Networks
pub mod Steps
pub mod Talks
