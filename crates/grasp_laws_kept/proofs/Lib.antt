pub mod Moments
pub mod Putting
pub mod Agents
pub mod Around
pub mod Disks
pub mod Steps
pub mod Crashes
pub mod First
mod Listed
pub mod Runs
