mod Calls
mod Events
mod Fitting
mod Listed
mod Scripts
