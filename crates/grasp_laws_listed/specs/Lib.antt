pub mod Doubts
pub mod Reserved
