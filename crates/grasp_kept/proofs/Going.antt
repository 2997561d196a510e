-- The disk of a node goes on around what happens to the node's agent.
use Rattle.std.proofs.Common.{◌≡◌, refl, sym, ◌∙◌, ap, subst, arith, ℕ, ◌+◌, ◌-◌, ◌<◌, ◌^◌, List, Option, Some, length}
use Rattle.grasp_disk.specs.Memory.{all_kept, written_by}
use Rattle.grasp_agent.specs.Kept.{IsKept}
use Rattle.grasp_agent.specs.States.{AgentState}
use Rattle.grasp_pool.specs.declared.roots.RootPrefix.{RootPrefix}
use Rattle.grasp_store.specs.Current.{current_in, number_of}
use Rattle.grasp_store.specs.Images.{image_before, image_of}
use Rattle.grasp_store.specs.Saving.{before_calls, behind_calls}
use Rattle.grasp_laws_store.proofs.Ordering.{images_are_in_order}
use Rattle.grasp_model_network.specs.Plans.{IsNode}
use Rattle.grasp_model_network.specs.Setting.{Setting}
use Rattle.grasp_model_network.specs.World.{Seat, WorldState}
use Rattle.grasp_model_kept.specs.Disks.{asked_before, asked_behind, asked_here, present_seat, roots_of}
use Rattle.grasp_model_kept.specs.World.{KeptState, disk_of}
use Rattle.grasp_laws_kept.specs.Disks.{DiskStands}
use Rattle.grasp_laws_kept.specs.Laws.{KeptStands}
use Rattle.grasp_laws_kept.proofs.Putting.{Puts, before_puts}
use Rattle.grasp_laws_kept.proofs.Steps.{kept_in, member_there}
use Rattle.grasp_simulator.specs.WorldStands.{HasNode, LendsAgent, WorldStands}
use Rattle.grasp_simulator.specs.declared.world.World.{World}
use Rattle.grasp_kept.specs.Nodes.{network_at}

-- ---- what a network lends of a member

module _ (world : World) (s : Setting) (w : WorldState) (node : ℕ) (stands : WorldStands world (network_at s w)) (member : IsNode (length s.members) node) where
  pub has_node : HasNode world node
  has_node = record { network = network_at s w; stands = stands; is_node = member }

  pub is_lent : (seat : Seat) → present_seat w node ≡ Some seat → (agent : AgentState) → LendsAgent world node agent → agent ≡ seat.agent
  is_lent seat here agent lends = lends s w seat (record { stands = stands; here = here })

  -- the disk is asked this behind a call of that agent
  pub behind_is : (seat : Seat) → present_seat w node ≡ Some seat → (agent : AgentState) → LendsAgent world node agent → (roots : List RootPrefix) (bytes : List ℕ)
      → behind_calls roots bytes agent ≡ asked_behind roots bytes (present_seat w node)
  behind_is seat here agent lends roots bytes =
      ap (λ (a : AgentState). behind_calls roots bytes a) (is_lent seat here agent lends) ∙ ap (λ (o : Option Seat). asked_behind roots bytes o) (sym here)

-- ---- a member and its disk

module _ (s : Setting) (k : KeptState) (node most : ℕ) (kept : KeptStands s most k) (below : most + 2 < 2 ^ 64 - 1) (member : IsNode (length s.members) node) where
  abbrev roots : List RootPrefix
  roots = roots_of s node

  abbrev bytes : List ℕ
  bytes = disk_of k.disks node

  pub there : (seat : Seat) × (present_seat k.world node ≡ Some seat)
  there = member_there s k.world kept.reached node member

  pub stood : DiskStands (roots_of s node) (disk_of k.disks node) there.0.agent.pool most
  stood = kept.disks.each node there.0 member there.1

  pub few : number_of (current_in (disk_of k.disks node)) < 2 ^ 64 - 1
  few = omega (arith, stood.number, below)

  is_kept : IsKept there.0.agent
  is_kept = kept_in s k most kept below k.world kept.reached node there.0 there.1

  puts : Puts (roots_of s node) (all_kept (disk_of k.disks node)) (before_calls (disk_of k.disks node) there.0.agent) (image_of there.0.agent.pool) (image_before there.0.agent) (most + 1)
  puts = before_puts roots (all_kept bytes) refl there.0.agent stood.holds most stood.number (omega (arith, below)) (images_are_in_order.before there.0.agent is_kept).good

  -- what it is asked before a call
  pub puts_here : Puts (roots_of s node) (all_kept (disk_of k.disks node)) (asked_here k node) (image_of there.0.agent.pool) (image_before there.0.agent) (most + 1)
  puts_here =
      subst (λ (o : Option Seat). Puts roots (all_kept bytes) (asked_before bytes o) (image_of there.0.agent.pool) (image_before there.0.agent) (most + 1)) (sym there.1) puts

  -- its number may rise once more then
  pub few_then : number_of (current_in (written_by (disk_of k.disks node) (asked_here k node))) < 2 ^ 64 - 1
  few_then = omega (arith, puts_here.number, below)

  module _ (world : World) (stands : WorldStands world (network_at s k.world)) (agent : AgentState) (lends : LendsAgent world node agent) where
    -- the disk is asked this before a call of that agent
    pub before_is : before_calls (disk_of k.disks node) agent ≡ asked_here k node
    before_is =
        ap (λ (a : AgentState). before_calls bytes a) (is_lent world s k.world node stands member there.0 there.1 agent lends)
        ∙ ap (λ (o : Option Seat). asked_before bytes o) (sym there.1)
