pub mod Answers
pub mod Events
pub mod Grammar
pub mod Laws
pub mod Orders
pub mod Places
pub mod Requests
