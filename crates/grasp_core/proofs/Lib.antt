mod Acting
pub mod Acts
mod Asking
mod Came
pub mod Crosses
mod Dialling
pub mod Drawn
pub mod Dropping
pub mod Expiring
pub mod FedPieces
mod Finding
pub mod HearAll
mod Heard
pub mod Owning
pub mod Planning
pub mod Queueing
mod Recorded
pub mod SamePlan
pub mod SomethingComes
mod SomethingGiven
mod Spreading
pub mod StreamNumbers
pub mod StreamRecords
pub mod TakenPieces
pub mod Waiting
pub mod WayLists
