pub mod Acts
pub mod Courses
pub mod Going
pub mod Histories
pub mod Holding
pub mod Laws
pub mod Lives
