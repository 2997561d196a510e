-- What is kept of an agent before it accepts a prefix (RFC 8992, section 4.2). That the prefix is kept in doubt then is this project's own.
use Rattle.std.specs.Prelude.{◌≡◌, ℕ, ◌<◌, ◌^◌, All, Contains, List, length, Some}
use Rattle.grasp_agent.specs.Kept.{IsKept}
use Rattle.grasp_agent.specs.States.{AgentState}
use Rattle.grasp_agent.specs.declared.act.Act.TheVariants.{Accept}
use Rattle.grasp_disk.specs.Memory.{written_by}
use Rattle.grasp_model_kept.specs.Disks.{asked_here, present_seat, roots_of}
use Rattle.grasp_model_kept.specs.Runs.{IsKeptRun, KeptHappening, kept_states}
use Rattle.grasp_model_kept.specs.World.{KeptState, disk_of, first_kept}
use Rattle.grasp_model_network.specs.GoodSetting.{IsGoodSetting}
use Rattle.grasp_model_network.specs.Plans.{IsNode}
use Rattle.grasp_model_network.specs.Setting.{Setting}
use Rattle.grasp_model_network.specs.World.{Seat}
use Rattle.grasp_pool.specs.Holdings.{Holding, IsListed}
use Rattle.grasp_pool.specs.declared.image.PoolImage.{PoolImage}
use Rattle.grasp_store.specs.Current.{image_on}
use Rattle.grasp_store.specs.Images.{image_before, image_behind}
use Rattle.grasp_types.specs.Prefix.{AddressBlock as Prefix}
use Rattle.grasp_types.specs.declared.session.Handle.{Handle}

-- the image has all of the pool: its free prefixes are free, and all that is reserved or in doubt is in doubt
pub record IsOfAll (pool : Holding) (image : PoolImage) : Type 0 where
  pub free : image.free ≡ pool.free
  pub listed : (p : Prefix) → IsListed pool p → Contains image.doubtful p

-- the agent's next call accepts this prefix
abbrev pub Accepts : AgentState → Prefix → Type 0
Accepts a p = (h : Handle) × (a.act ≡ Some (Accept h p))

-- once the node's disk was asked what it is asked before the agent's next call, its image has the prefix in doubt that the call accepts
abbrev pub KeepsAccepted : Setting → KeptState → Type 0
KeepsAccepted s k = (node : ℕ) (seat : Seat) (p : Prefix) → IsNode (length s.members) node → present_seat k.world node ≡ Some seat → Accepts seat.agent p
    → Contains (image_on (roots_of s node) (written_by (disk_of k.disks node) (asked_here k node))).doubtful p

pub record AcceptedAreKept : Type 0 where
  -- the image that is kept before a call, and that behind one, has all of the pool
  pub before : (a : AgentState) → IsKept a → IsOfAll a.pool (image_before a)
  pub behind : (a : AgentState) → IsKept a → IsOfAll a.pool (image_behind a)
  -- and the one before a call has the prefix in doubt that the call accepts
  pub accepted : (a : AgentState) (p : Prefix) → Accepts a p → Contains (image_before a).doubtful p
  -- so has the disk, in each state of a run of fewer than 2^32 events
  pub disks : (s : Setting) (hs : List KeptHappening) → IsGoodSetting s → length hs < 2 ^ 32 → IsKeptRun s (first_kept s) hs
      → All (KeepsAccepted s) (kept_states s (first_kept s) hs)
