pub mod Fronts
pub mod MessageLines
pub mod PackedLines
pub mod PackedWords
pub mod Packing
pub mod Rooms
pub mod Sequence
pub mod Spelled
