pub mod Draining
pub mod Fitting
pub mod Recording
