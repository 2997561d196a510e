-- The parts of a node hold together, its sessions with the records of their streams: over each move, call and input.
pub mod Bytes
pub mod Calls
pub mod Datagrams
pub mod Declines
pub mod Hear
pub mod Listeners
pub mod Lists
pub mod Moves
pub mod Nodes
pub mod Streams
pub mod Table
