mod Counting
pub mod DoubtLines
pub mod LinesRead
pub mod ScriptLaws
