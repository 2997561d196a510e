-- What a crash leaves of a disk on which an agent's images are kept.
use Rattle.std.specs.Prelude.{◌≡◌, ℕ, List}
use Rattle.grasp_disk.specs.Calls.{DiskCall, DiskLog, bytes_of, state_of}
use Rattle.grasp_disk.specs.Crashes.{AtEachMoment, IsSettled, Leaves}
use Rattle.grasp_pool.specs.declared.roots.RootPrefix.{RootPrefix}
use Rattle.grasp_agent.specs.Kept.{IsKept}
use Rattle.grasp_agent.specs.Laws.{IsPossible}
use Rattle.grasp_agent.specs.Reopening.{MayReopen}
use Rattle.grasp_agent.specs.Replies.{AgentEvent, after_event}
use Rattle.grasp_agent.specs.States.{AgentState}
use Rattle.grasp_store.specs.Current.{IsSound, Holds, image_on}
use Rattle.grasp_store.specs.Images.{image_behind}
use Rattle.grasp_store.specs.Keeping.{kept_before}
use Rattle.grasp_store.specs.Saving.{IsOldOrNew}
use Rattle.grasp_laws_store.specs.Images.{image_under}

-- the disk can be opened, and its image may open the agent anew
pub record Reopens (roots : List RootPrefix) (s : AgentState) (content : List ℕ) : Type 0 where
  pub sound : IsSound content
  pub reopens : MayReopen s (image_on roots content)

-- where the image of its pool is current: each content that a crash may leave at any moment of what is done before the agent's next call may open it anew
abbrev pub BeforeReopens : Type 0
BeforeReopens = (roots : List RootPrefix) (log : DiskLog) (s : AgentState) (made : List DiskCall) → IsKept s → image_on roots (bytes_of log) ≡ image_behind s
    → AtEachMoment (state_of log) made (IsOldOrNew (bytes_of log) (kept_before (image_on roots (bytes_of log)) s))
    → AtEachMoment (state_of log) made (Reopens roots s)

-- where the image is current that was kept while this happened to it: each content that a crash may leave at any moment of what is done behind it may open
-- the agent anew that it then is
abbrev pub BehindReopens : Type 0
BehindReopens = (roots : List RootPrefix) (log : DiskLog) (s : AgentState) (e : AgentEvent) (made : List DiskCall) → IsKept s → IsPossible e
    → image_on roots (bytes_of log) ≡ image_under s e
    → AtEachMoment (state_of log) made (IsOldOrNew (bytes_of log) (image_behind (after_event s e)))
    → AtEachMoment (state_of log) made (Reopens roots (after_event s e))

-- where all that was written is synced, as it is between two calls of a keeper that has answered no fault, a crash leaves the image that is current
abbrev pub CurrentImagesStay : Type 0
CurrentImagesStay = (roots : List RootPrefix) (log : DiskLog) → IsSettled (state_of log) → IsSound (bytes_of log)
    → Leaves (state_of log) (λ content. Holds roots content (image_on roots (bytes_of log)))
