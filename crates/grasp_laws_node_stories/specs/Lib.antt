pub mod Acceptances
pub mod Stories
pub mod StreamMoves
