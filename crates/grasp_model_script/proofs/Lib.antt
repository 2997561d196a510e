mod Listing
pub mod MoreLines
pub mod OneRun
pub mod RunLaws
