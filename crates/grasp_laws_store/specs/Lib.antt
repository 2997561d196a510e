pub mod Disks
pub mod Images
pub mod Ordering
pub mod Saves
pub mod Stopping
