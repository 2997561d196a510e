pub mod Apart
pub mod Grounds
pub mod Hands
pub mod Known
pub mod Settled
