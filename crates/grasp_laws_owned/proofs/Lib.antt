mod Hearing
mod OthersCalls
mod Own
mod Owned
mod Polled
mod Registering
pub mod Steps
