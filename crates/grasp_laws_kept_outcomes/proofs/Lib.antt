mod Events
mod Scripts
