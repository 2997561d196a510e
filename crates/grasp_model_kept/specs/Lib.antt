pub mod Disks
pub mod Crashing
pub mod World
pub mod Runs
