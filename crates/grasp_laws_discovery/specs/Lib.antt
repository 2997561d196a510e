pub mod Laws
pub mod Locators
pub mod Own
pub mod Sources
