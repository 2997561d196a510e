pub mod Drawing
pub mod LinesWritten
pub mod Rooting
pub mod RoundsWritten
