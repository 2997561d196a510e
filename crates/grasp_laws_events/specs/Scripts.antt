-- What the network of a script is made of: its addresses, its links, whom a want or a return asks, and how a stream arrives. Addresses, port and
-- numbers are this project's own.
use Rattle.std.specs.Prelude.{◌≡◌, ◌↔◌, ◌+◌, ◌*◌, ◌^◌, ℕ, Bool, Some, Contains, length}
use Rattle.grasp_model_network.specs.Events.{visit_of}
use Rattle.grasp_model_network.specs.Plans.{IsGoodPlan}
use Rattle.grasp_model_network.specs.Runs.{IsReached}
use Rattle.grasp_model_network.specs.Setting.{Member, numbered, script_setting}
use Rattle.grasp_model_network.specs.Streams.{StreamState}
use Rattle.grasp_model_network.specs.Visits.{Visit}
use Rattle.grasp_model_network.specs.World.{WorldState, member_of}
use Rattle.grasp_model_network.specs.declared.event.Event.TheVariants as event
use Rattle.grasp_model_network.specs.declared.plan.WorldPlan.{WorldPlan}
use Rattle.grasp_pool.specs.declared.roots.RootPrefix.{RootPrefix}
use Rattle.grasp_types.specs.declared.address.Address.TheVariants as address
use Rattle.grasp_types.specs.declared.address.Locator.TheVariants as locator
use Rattle.grasp_types.specs.declared.address.Proto.TheVariants.{Tcp}
use Rattle.grasp_types.specs.declared.traffic.Input.TheVariants as input
use Rattle.grasp_laws_events.specs.Steps.{IsTalkNumbered}

-- the node of this number has the address fd00:: with the number behind it, listens there on TCP port 7017, and has the plan's limit and its roots
pub record IsScriptNode (p : WorldPlan) (k : ℕ) (m : Member) : Type 0 where
  pub address : m.plan.address ≡ address.V6 (64768 * 2 ^ 112 + k)
  pub listens : m.plan.locator ≡ locator.V6 (64768 * 2 ^ 112 + k) Tcp 7017
  pub limit : m.plan.limit ≡ p.limit
  pub roots : (r : RootPrefix) → Contains m.roots r ↔ Contains p.roots (record { node = k; root = r })

-- the stream that arrives as the K-th that was dialled has the number 2K - 1, and its opener is told to be at the address of the node that dialled it
pub record ArrivesSo (p : WorldPlan) (w : WorldState) (k : ℕ) (v : Visit) : Type 0 where
  pub talk : StreamState
  pub found : IsTalkNumbered w k talk
  pub number : ℕ
  pub opener : ℕ
  pub opened : v.input ≡ input.Opened number (address.V6 (64768 * 2 ^ 112 + opener))
  pub is_number : number + 1 ≡ 2 * k
  pub is_opener : opener ≡ member_of w talk.near.node

pub record ScriptsHaveSettings : Type 0 where
  pub count : (p : WorldPlan) → length (script_setting p).members ≡ p.nodes
  pub members : (p : WorldPlan) (k : ℕ) (m : Member) → numbered (script_setting p).members k ≡ Some m → IsScriptNode p k m
  pub lines : (p : WorldPlan) → (script_setting p).lines ≡ p.links
  -- a want or a return that names a node asks where that node listens
  pub peer_count : (p : WorldPlan) → length (script_setting p).peers ≡ p.nodes
  pub peers : (p : WorldPlan) (k : ℕ) (m : Member) → numbered (script_setting p).members k ≡ Some m
      → numbered (script_setting p).peers k ≡ Some m.plan.locator
  pub arrivals : (p : WorldPlan) (w : WorldState) (k : ℕ) (hold : Bool) (v : Visit) → IsGoodPlan p → IsReached (script_setting p) w
      → visit_of (script_setting p) w (event.Arrive k hold) ≡ Some v → ArrivesSo p w k v
