-- Inside: what the fields of a doubter mean, and the room that they keep.
use Rattle.std.specs.Prelude.{ℕ, ◌≤◌, ◌<◌, length}
use Rattle.std.specs.Vec.{vec_capacity}
use Rattle.grasp_doubter.specs.States.{DoubterState}
use Rattle.grasp_doubter.specs.declared.doubter.Doubter.TheInside.{Inside}

abbrev pub state_of : Inside → DoubterState
state_of d = record { address = d.address; openers = d.openers.items; offered = d.offered.items; accepted = d.accepted.items; lost = d.lost; ask = d.ask; answering = d.answering.items; act = d.act; cursor = d.cursor }

-- room for 64 openers, 4096 offers, 1024 prefixes and 64 sessions, of each of which there are no more; and a place among at most 66 duties
pub record IsStored (d : Inside) : Type 0 where
  pub openers : 64 ≤ vec_capacity d.openers
  pub offered : 4096 ≤ vec_capacity d.offered
  pub accepted : 1024 ≤ vec_capacity d.accepted
  pub answering : 64 ≤ vec_capacity d.answering
  pub few : length d.answering.items ≤ 64
  pub cursor : d.cursor < 66
