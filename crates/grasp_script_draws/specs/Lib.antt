pub mod Drawing
pub mod Generator
