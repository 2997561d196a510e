pub mod Agree
pub mod Floods
pub mod Laws
pub mod Outcomes
