pub mod Grammar
pub mod Laws
pub mod Line
pub mod Place
pub mod Readers
pub mod Reading
pub mod Words
pub mod Writing
