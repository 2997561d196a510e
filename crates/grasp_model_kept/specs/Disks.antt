-- What the disk of a member is asked around what happens to its agent.
use Rattle.std.specs.Prelude.{ℕ, List, [], ◌++◌, Option, None, Some}
use Rattle.grasp_disk.specs.Calls.{DiskCall}
use Rattle.grasp_disk.specs.Memory.{written_by}
use Rattle.grasp_pool.specs.declared.roots.RootPrefix.{RootPrefix}
use Rattle.grasp_store.specs.Saving.{before_calls, behind_calls}
use Rattle.grasp_model_network.specs.Setting.{Member, Setting, numbered}
use Rattle.grasp_model_network.specs.World.{Seat, WorldState, present_life, seat_at}
use Rattle.grasp_model_network.specs.declared.event.Event.{Event}
use Rattle.grasp_model_network.specs.declared.event.Event.TheVariants as event
use Rattle.grasp_model_kept.specs.World.{KeptState, disk_of, with_disk}

abbrev pub member_roots : Option Member → List RootPrefix
member_roots None = []
member_roots (Some m) = m.roots

-- the roots of a member
abbrev pub roots_of : Setting → ℕ → List RootPrefix
roots_of s node = member_roots (numbered s.members node)

-- a member in its present life
abbrev pub present_seat : WorldState → ℕ → Option Seat
present_seat w node = seat_at w (present_life w node)

-- ---- what a disk on which these bytes stand is asked, the newest call first

-- before the agent's next call
abbrev pub asked_before : List ℕ → Option Seat → List DiskCall
asked_before bytes None = []
asked_before bytes (Some seat) = before_calls bytes seat.agent

-- behind a call of the agent, and once the agent is told of a want or a return
abbrev pub asked_behind : List RootPrefix → List ℕ → Option Seat → List DiskCall
asked_behind roots bytes None = []
asked_behind roots bytes (Some seat) = behind_calls roots bytes seat.agent

-- ---- around a call of a member's agent

-- before the call
abbrev pub asked_here : KeptState → ℕ → List DiskCall
asked_here k node = asked_before (disk_of k.disks node) (present_seat k.world node)

-- behind the call, where it leads to this network
abbrev pub asked_then : Setting → KeptState → ℕ → WorldState → List DiskCall
asked_then s k node w = asked_behind (roots_of s node) (written_by (disk_of k.disks node) (asked_here k node)) (present_seat w node)

-- ---- the disks after an event

-- what the disk of this member is asked where its agent's call leads to this network
abbrev pub call_asks : Setting → KeptState → ℕ → WorldState → List DiskCall
call_asks s k node w = asked_then s k node w ++ asked_here k node

-- what it is asked where a want or a return leads to this network
abbrev pub telling_asks : Setting → KeptState → ℕ → WorldState → List DiskCall
telling_asks s k node w = asked_behind (roots_of s node) (disk_of k.disks node) (present_seat w node)

-- the disks once this member's has made these calls
abbrev pub disks_written : KeptState → ℕ → List DiskCall → List (List ℕ)
disks_written k node calls = with_disk k.disks node (written_by (disk_of k.disks node) calls)

-- the disks after an event that leads to this network
abbrev pub disks_after : Setting → KeptState → Event → WorldState → List (List ℕ)
disks_after s k (event.Agent node hold) w = disks_written k node (call_asks s k node w)
disks_after s k (event.Want node length longest peer) w = disks_written k node (telling_asks s k node w)
disks_after s k (event.Return node prefix peer) w = disks_written k node (telling_asks s k node w)
disks_after s k _ w = k.disks
