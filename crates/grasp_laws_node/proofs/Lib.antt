pub mod Addressed
mod AllFailing
pub mod Apart
pub mod Beginning
pub mod Bounded
mod CallsSend
pub mod Consistent
pub mod DatagramsAlone
pub mod DialMoves
pub mod DialNodes
pub mod Divided
pub mod DrainedAll
pub mod Drains
pub mod Meaning
pub mod Numbers
pub mod Orders
mod OtherRecords
pub mod OthersAlone
mod Pigeons
pub mod PlansStay
pub mod Records
mod Refused
pub mod Remembered
mod SentOn
pub mod SessionChanges
mod SessionWeights
pub mod StreamsAlone
pub mod Walk
