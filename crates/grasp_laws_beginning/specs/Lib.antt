pub mod Expiring
pub mod Reading
pub mod TimingOut
