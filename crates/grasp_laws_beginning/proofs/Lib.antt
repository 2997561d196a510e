mod Expiring
mod Reading
mod TimingOut
