pub mod Lives
pub mod Courses
pub mod Keeping
pub mod Networks
pub mod Disks
