pub mod Events
mod Fitting
mod Scripts
