pub mod BigEndian
pub mod Crosses
pub mod Depths
pub mod Facts
pub mod FromItems
pub mod Multiples
pub mod Same
pub mod Through
