mod Closings
pub mod Draining
pub mod Fitting
mod Recording
mod Short
