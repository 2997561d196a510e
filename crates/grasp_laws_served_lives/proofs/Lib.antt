pub mod Asking
pub mod Stores
pub mod Networks
