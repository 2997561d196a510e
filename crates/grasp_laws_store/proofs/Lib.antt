pub mod Disks
pub mod Ordering
pub mod Passing
pub mod Reopening
pub mod Saves
pub mod Stopping
