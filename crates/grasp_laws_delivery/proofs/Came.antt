-- What comes to a node with each kind of event.
pub mod Inputs
