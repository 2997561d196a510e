pub mod Disks
pub mod Laws
pub mod Listed
