pub mod Audits
pub mod Faults
pub mod Lines
pub mod Naming
pub mod Recording
pub mod RecordRuns
pub mod Verdicts
