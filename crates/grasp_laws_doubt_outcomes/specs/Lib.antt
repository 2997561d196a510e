pub mod Events
pub mod Listed
pub mod Scripts
