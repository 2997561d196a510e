pub mod Ends
pub mod InTurn
