pub mod Agents
mod Beginning
pub mod Courses
mod Going
pub mod Happenings
mod Holding
pub mod Lives
mod Members
mod Networks
pub mod Numbers
pub mod Openings
mod Orders
pub mod Rounds
pub mod Seats
