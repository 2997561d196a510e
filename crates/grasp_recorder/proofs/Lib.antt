mod Acts
mod Clocks
mod Ends
pub mod Headers
mod Held
mod Known
mod Passed
mod Readings
mod SameTexts
mod Steps
mod Took
