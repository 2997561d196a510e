-- What the image has with which a node begins anew: all that its agent's pool had at the crash.
use Rattle.std.specs.Prelude.{◌≡◌, ◌⊎◌, ℕ, ◌<◌, ◌^◌, All, List, length, Some}
use Rattle.grasp_disk.specs.declared.left.Left.{Left}
use Rattle.grasp_model_kept.specs.Crashing.{image_left, world_crashed}
use Rattle.grasp_model_kept.specs.Disks.{present_seat}
use Rattle.grasp_model_kept.specs.Runs.{IsKeptRun, KeptHappening, KeptOccurs, kept_states}
use Rattle.grasp_model_kept.specs.World.{KeptState, first_kept}
use Rattle.grasp_model_kept.specs.declared.event.KeptEvent.TheVariants.{Crash}
use Rattle.grasp_model_network.specs.GoodSetting.{IsGoodSetting}
use Rattle.grasp_model_network.specs.Setting.{Setting}
use Rattle.grasp_model_network.specs.Visits.{Choice}
use Rattle.grasp_model_network.specs.World.{Seat}
use Rattle.grasp_pool.specs.Holdings.{Holding, IsFree, IsListed}
use Rattle.grasp_pool.specs.Listings.{all_of}
use Rattle.grasp_pool.specs.Spans.{Covers}
use Rattle.grasp_types.specs.Prefix.{AddressBlock as Prefix, span_of}

-- the pool has the address: it is free, or of a prefix that is reserved or in doubt
abbrev pub Has : Holding → ℕ → Type 0
Has pool x = IsFree pool x ⊎ ((p : Prefix) × IsListed pool p × span_of p x)

-- at each crash that may come out: each address that the pool of the node's agent has then is of a prefix of the image that is left
abbrev pub ForgetsNothing : Setting → KeptState → Type 0
ForgetsNothing s k = (node calls : ℕ) (left : Left) (c : Choice) (seat : Seat) (x : ℕ) → KeptOccurs s k (Crash node calls left) c
    → present_seat (world_crashed s k node calls c) node ≡ Some seat → Has seat.agent.pool x
    → Covers (all_of (image_left s k node calls left c)) x

-- in each state of a run of fewer than 2^32 events
abbrev pub NothingIsForgotten : Type 0
NothingIsForgotten = (s : Setting) (hs : List KeptHappening) → IsGoodSetting s → length hs < 2 ^ 32 → IsKeptRun s (first_kept s) hs
    → All (ForgetsNothing s) (kept_states s (first_kept s) hs)
