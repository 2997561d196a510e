pub mod Laws
pub mod LineRuns
pub mod Safe
pub mod ScriptRuns
pub mod Stops
pub mod Summary
