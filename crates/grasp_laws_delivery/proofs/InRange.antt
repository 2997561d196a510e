-- What a node keeps and queues is in the ranges of its types: over each move, call and input.
pub mod Bytes
pub mod Calls
pub mod Datagrams
pub mod Hear
pub mod Moves
pub mod Networks
pub mod Nodes
