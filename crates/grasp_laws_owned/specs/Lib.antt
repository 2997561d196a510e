pub mod Laws
pub mod Owned
pub mod Serving
