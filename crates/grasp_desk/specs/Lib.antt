pub mod Desk
pub mod MemoryDesk
