pub mod MoreLines
pub mod OneRun
