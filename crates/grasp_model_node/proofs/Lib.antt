pub mod ClosingThenGone
pub mod Facts
pub mod OneAddition
