pub mod Agreeing
pub mod Leaving
pub mod Opening
pub mod Wanting
