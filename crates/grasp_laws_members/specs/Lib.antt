pub mod Acts
pub mod Courses
pub mod Giving
pub mod Laws
pub mod Coming
