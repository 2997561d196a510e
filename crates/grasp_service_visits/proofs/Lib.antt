mod Desks
pub mod Each
pub mod Going
mod Hearing
mod Requests
mod Shown
mod TendingAll
mod Visiting
