-- By which images every agent may be opened anew: that of its pool as it is, and that of its pool at the end of its life.
use Rattle.std.specs.Prelude.{◌++◌}
use Rattle.grasp_pool.specs.declared.image.PoolImage.{PoolImage}
use Rattle.grasp_agent.specs.Kept.{IsKept}
use Rattle.grasp_agent.specs.Reopening.{without_act, without_return, retired, MayReopen}
use Rattle.grasp_agent.specs.States.{AgentState, unsent_of}

-- what is free is to be free, and what is reserved or in doubt is to be in doubt
abbrev pub image_now : AgentState → PoolImage
image_now a = record { free = a.pool.free; doubtful = a.pool.reserved ++ a.pool.doubtful }

-- what was to be offered is to be free, too, and what was offered or in doubt is to be in doubt
abbrev pub image_at_end : AgentState → PoolImage
image_at_end a = record {
  free = (without_return (without_act a a.act) (unsent_of a.back)).pool.free;
  doubtful = (retired a).pool.reserved ++ (retired a).pool.doubtful;
}

-- an agent may be opened anew with what it has
abbrev pub KeptAgentsMayReopen : Type 0
KeptAgentsMayReopen = (a : AgentState) → IsKept a → MayReopen a (image_now a)

-- and with what it has once nothing is to be offered
abbrev pub MayReopenRetired : Type 0
MayReopenRetired = (a : AgentState) → IsKept a → MayReopen a (image_at_end a)
