pub mod Laws
pub mod Lines
pub mod Reading
pub mod Refusals
pub mod Reports
pub mod Scripts
pub mod Starting
