pub mod Drawn
pub mod DrawnActs
pub mod DrawnHeader
pub mod LineEnds
