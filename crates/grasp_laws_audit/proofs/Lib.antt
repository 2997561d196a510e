mod Calls
mod Clocks
mod Datagrams
mod Holding
mod Named
pub mod OneLine
mod Present
mod ReadBack
mod Recorded
pub mod Runs
mod Sides
mod Steps
mod Told
mod Unbroken
pub mod Verdicts
mod Written
mod Telling
