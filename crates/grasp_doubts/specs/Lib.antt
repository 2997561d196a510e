pub mod Contract
pub mod Nodes
pub mod Opening
pub mod Stands
