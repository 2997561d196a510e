pub mod Laws
pub mod Real
pub mod Sought
