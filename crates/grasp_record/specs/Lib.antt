pub mod Answers
pub mod Dividing
pub mod Grammar
pub mod Inputs
pub mod Laws
pub mod Records
