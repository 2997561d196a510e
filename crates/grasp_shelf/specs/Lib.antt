pub mod Opening
pub mod Shelves
