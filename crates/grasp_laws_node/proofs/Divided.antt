-- What came on a node's open streams divides into messages and a rest that waits: over each step.
pub mod Bounds
pub mod Comes
pub mod Nodes
