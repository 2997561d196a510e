-- What is queued fits: over each move, and so over each step.
mod Moves
pub mod Nodes
