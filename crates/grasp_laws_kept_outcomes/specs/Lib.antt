pub mod Events
pub mod Scripts
