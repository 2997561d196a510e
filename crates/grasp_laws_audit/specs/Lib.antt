pub mod Laws
pub mod ReadBack
pub mod Recorded
pub mod Written
pub mod Telling
