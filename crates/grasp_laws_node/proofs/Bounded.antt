-- A node's lists stay within their limits: over each move, and so over each step.
pub mod Bytes
pub mod Calls
pub mod Hear
pub mod Moves
pub mod Nodes
pub mod Streams
pub mod Table
pub mod Tests
pub mod Walk
