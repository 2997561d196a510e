pub mod Flood
pub mod Floods
pub mod Laws
