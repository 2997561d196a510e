pub mod GoingOn
pub mod Grounds
pub mod Knowing
pub mod Negotiations
pub mod Safe
pub mod Streams
