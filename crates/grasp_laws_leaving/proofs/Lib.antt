pub mod Ends
pub mod InTurn
mod Less
mod Listed
pub mod OtherRecords
mod Turns
