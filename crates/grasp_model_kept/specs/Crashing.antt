-- A node crashes at its agent's next call: what is done before the crash, and what the crash leaves.
use Rattle.std.specs.Prelude.{ℕ, ◌-◌, Bool, true, false, nat_lt, List, [], ◌∷◌, ◌++◌, length}
use Rattle.grasp_disk.specs.Calls.{DiskCall}
use Rattle.grasp_disk.specs.Memory.{left_by}
use Rattle.grasp_disk.specs.declared.left.Left.{Left}
use Rattle.grasp_pool.specs.declared.image.PoolImage.{PoolImage}
use Rattle.grasp_store.specs.Current.{image_on}
use Rattle.grasp_store.specs.Saving.{first_calls}
use Rattle.grasp_model_network.specs.Events.{Occurs, Overflows, after_event}
use Rattle.grasp_model_network.specs.Setting.{Setting}
use Rattle.grasp_model_network.specs.Turns.{TakenTurn}
use Rattle.grasp_model_network.specs.Visits.{Choice}
use Rattle.grasp_model_network.specs.World.{WorldState}
use Rattle.grasp_model_network.specs.declared.event.Event.TheVariants as event
use Rattle.grasp_model_network.specs.declared.turn.Turn.TheVariants as turn
use Rattle.grasp_model_kept.specs.Disks.{asked_here, asked_then, roots_of}
use Rattle.grasp_model_kept.specs.World.{KeptState, disk_of}

-- the disk stops before the agent's call, which isn't made then
abbrev pub is_cut : KeptState → ℕ → ℕ → Bool
is_cut k node calls = nat_lt calls (length (asked_here k node))

-- ---- where the disk stops before the agent's call, and where it doesn't

-- the call may come out so, where it is made; what it queues is drained, also where the disk stops behind it
abbrev pub CallOccurs : Setting → WorldState → ℕ → Choice → Bool → Type 0
CallOccurs s w node c true = Unit {0}
CallOccurs s w node c false = Occurs s w (event.Agent node false) c

-- the call sends more than may be sent, where it is made
abbrev pub CallOverflows : Setting → WorldState → ℕ → Bool → Type 0
CallOverflows s w node true = ⊥
CallOverflows s w node false = Overflows s w (event.Agent node false)

-- the network at the crash
abbrev pub world_cut : Setting → WorldState → ℕ → Choice → Bool → WorldState
world_cut s w node c true = w
world_cut s w node c false = after_event s w (event.Agent node false) c

-- the calls that the disk makes before it stops, the newest first
abbrev pub made_cut : Setting → KeptState → ℕ → ℕ → Choice → Bool → List DiskCall
made_cut s k node calls c true = first_calls calls (asked_here k node)
made_cut s k node calls c false = first_calls (calls - length (asked_here k node)) (asked_then s k node (after_event s k.world (event.Agent node false) c)) ++ asked_here k node

-- the turns up to the crash
abbrev pub turns_cut : ℕ → Choice → Bool → List TakenTurn
turns_cut node c true = []
turns_cut node c false = record { turn = turn.Event (event.Agent node false); choice = c } ∷ []

-- ---- the crash

-- the network at the crash
abbrev pub world_crashed : Setting → KeptState → ℕ → ℕ → Choice → WorldState
world_crashed s k node calls c = world_cut s k.world node c (is_cut k node calls)

-- what the crash leaves on the node's disk
abbrev pub bytes_left : Setting → KeptState → ℕ → ℕ → Left → Choice → List ℕ
bytes_left s k node calls left c = left_by left (disk_of k.disks node) (made_cut s k node calls c (is_cut k node calls))

-- the image with which the node begins anew
abbrev pub image_left : Setting → KeptState → ℕ → ℕ → Left → Choice → PoolImage
image_left s k node calls left c = image_on (roots_of s node) (bytes_left s k node calls left c)
