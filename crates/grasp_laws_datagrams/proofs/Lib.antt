mod Datagrams
mod Discoveries
mod Floods
mod Relaying
