pub mod Datagrams
pub mod Discoveries
pub mod Floods
pub mod Relaying
