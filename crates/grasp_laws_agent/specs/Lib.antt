pub mod Changes
pub mod Moves
pub mod Next
pub mod Reopening
pub mod Retiring
pub mod Returns
pub mod Sending
