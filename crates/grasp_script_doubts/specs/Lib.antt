pub mod Laws
pub mod Lines
pub mod Reading
pub mod Reports
pub mod Scripts
