-- One walk over a step: each step of a node is a list of moves, and what each move keeps is kept by each step.
pub mod Bytes
pub mod Calls
pub mod Datagrams
pub mod Declines
pub mod Hear
pub mod Moves
pub mod Parts
pub mod Steps
