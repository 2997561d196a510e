pub mod Answering
pub mod First
mod Found
mod Later
pub mod Messages
mod Pieces
mod Streams
