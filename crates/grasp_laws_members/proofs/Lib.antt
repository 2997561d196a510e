pub mod Clock
pub mod Giving
pub mod Steps
pub mod Courses
mod Coming
