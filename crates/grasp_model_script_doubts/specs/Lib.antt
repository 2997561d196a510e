pub mod Laws
pub mod LineRuns
pub mod ScriptRuns
pub mod Settlings
