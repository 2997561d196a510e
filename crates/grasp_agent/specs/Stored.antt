-- Inside: what the fields of an agent of PrefixManager mean, and the room that they keep.
use Rattle.std.specs.Prelude.{◌<◌, ◌≤◌}
use Rattle.std.specs.Vec.{vec_capacity}
use Rattle.grasp_agent.specs.Kept.{IsKept}
use Rattle.grasp_agent.specs.States.{AgentState}
use Rattle.grasp_agent.specs.declared.prefix_agent.PrefixAgent.TheInside.{Inside}

abbrev pub state_of : Inside → AgentState
state_of a = record { pool = a.pool; asa = a.asa; stage = a.stage; want = a.want; back = a.back; giving = a.giving.items; act = a.act; cursor = a.cursor; last = a.last }

-- what is true of every agent, with room for 64 giving sessions, and a place among at most 67 duties
pub record IsStored (a : Inside) : Type 0 where
  pub kept : IsKept (state_of a)
  pub giving : 64 ≤ vec_capacity a.giving
  pub cursor : a.cursor < 67
