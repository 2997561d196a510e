pub mod Answering
pub mod First
pub mod Later
pub mod Messages
pub mod Pieces
pub mod Streams
