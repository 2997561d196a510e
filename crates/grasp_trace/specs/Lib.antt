pub mod Lines
pub mod Messages
pub mod Sheet
pub mod Trace
pub mod Traffic
pub mod Watching
