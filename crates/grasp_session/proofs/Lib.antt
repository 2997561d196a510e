pub mod Acts
pub mod Calls
pub mod Crosses
mod Earliest
pub mod Ending
pub mod Facts
pub mod Means
pub mod Oldest
pub mod Replies
pub mod Seats
pub mod Tables
