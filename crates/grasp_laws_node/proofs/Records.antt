-- What is so of the open streams of a node: over each move, and so over each step.
pub mod Apart
pub mod Bytes
pub mod Moves
pub mod Nodes
