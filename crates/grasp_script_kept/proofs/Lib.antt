pub mod Counting
pub mod CrashLines
pub mod LinesRead
pub mod ScriptLaws
pub mod Starting
