pub mod Cutting
pub mod Lining
pub mod Telling
pub mod Watching
