pub mod Networks
mod Records
mod Steps
