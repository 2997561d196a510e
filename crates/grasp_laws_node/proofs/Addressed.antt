-- What a node queues is for a stream that it knows: over each move, and so over each step.
pub mod Acts
pub mod Moves
pub mod Nodes
pub mod Streams
