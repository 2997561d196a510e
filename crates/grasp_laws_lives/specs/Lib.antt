pub mod Courses
pub mod Stores
pub mod Laws
