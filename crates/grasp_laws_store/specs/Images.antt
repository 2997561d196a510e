-- By which images an agent may be opened anew: those that are kept of it.
use Rattle.grasp_pool.specs.declared.image.PoolImage.{PoolImage}
use Rattle.grasp_agent.specs.Kept.{IsKept}
use Rattle.grasp_agent.specs.Laws.{IsPossible}
use Rattle.grasp_agent.specs.Reopening.{MayReopen}
use Rattle.grasp_agent.specs.Replies.{AgentEvent, wanted, returned, replied, after_event}
use Rattle.grasp_agent.specs.States.{AgentState}
use Rattle.grasp_store.specs.Images.{image_before, image_behind}

-- an agent may be opened anew by the image of its pool
abbrev pub ImagesReopen : Type 0
ImagesReopen = (s : AgentState) → IsKept s → MayReopen s (image_behind s)

-- and by the image that is kept before its next call, which has the prefix in doubt that the call accepts
abbrev pub AcceptingReopens : Type 0
AcceptingReopens = (s : AgentState) → IsKept s → MayReopen s (image_before s)

-- the image that is kept while this happens to an agent
abbrev pub image_under : AgentState → AgentEvent → PoolImage
image_under s (wanted n longest peer) = image_behind s
image_under s (returned p peer) = image_behind s
image_under s (replied r) = image_before s

-- whatever its call is answered, the image that was kept meanwhile may open the agent anew that it then is; so may that
-- under which it was told to want or return something
abbrev pub RepliesReopen : Type 0
RepliesReopen = (s : AgentState) (e : AgentEvent) → IsKept s → IsPossible e → MayReopen (after_event s e) (image_under s e)
