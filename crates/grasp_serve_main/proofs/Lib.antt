pub mod Planned
pub mod Serving
