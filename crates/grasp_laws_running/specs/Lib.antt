pub mod Acts
pub mod Going
pub mod Laws
pub mod Others
