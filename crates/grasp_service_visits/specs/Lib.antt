pub mod Answers
pub mod Calling
pub mod Desks
pub mod Each
pub mod Parts
pub mod Serving
pub mod Tending
pub mod Visits
