pub mod Grounds
pub mod Laws
pub mod Opening
pub mod Remembering
pub mod Sending
pub mod Standing
