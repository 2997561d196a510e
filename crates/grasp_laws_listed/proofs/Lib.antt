mod Doubting
mod Doubts
mod OneEach
pub mod Reserved
