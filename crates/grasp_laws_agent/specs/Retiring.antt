-- What an agent of PrefixManager is at the end of its life, and what settling keeps.
use Rattle.std.specs.Prelude.{◌≡◌, ◌↔◌, false, List, [], slice_set, Option, Some, None, Contains}
use Rattle.grasp_types.specs.Prefix.{AddressBlock as Prefix}
use Rattle.grasp_agent.specs.Kept.{IsKept}
use Rattle.grasp_agent.specs.Laws.{IsToBeOffered}
use Rattle.grasp_agent.specs.Reopening.{retired}
use Rattle.grasp_agent.specs.Replies.{after_settling}
use Rattle.grasp_agent.specs.States.{AgentState, unsent_of}
use Rattle.grasp_agent.specs.declared.act.Act.{Act}
use Rattle.grasp_agent.specs.declared.act.Act.TheVariants as act
use Rattle.grasp_agent.specs.declared.back.Return.{Return}
use Rattle.grasp_agent.specs.declared.giving.Giving.{Giving}

-- the sessions in which it gives are the same, but for one in which the act would have offered a prefix: that one offers nothing
abbrev pub GivingStays : Option Act → List Giving → List Giving → Type 0
GivingStays None old new = new ≡ old
GivingStays (Some (act.Offer place h p)) old new = new ≡ slice_set old place (record { handle = h; offer = None; first = false })
GivingStays (Some (act.Counter h n)) old new = new ≡ old
GivingStays (Some (act.Accept h p)) old new = new ≡ old
GivingStays (Some (act.Decline h reason)) old new = new ≡ old

-- an agent at the end of its life
pub record RetiringMeans (a : AgentState) : Type 0 where
  pub kept : IsKept a → IsKept (retired a)
  -- it holds nothing, what was in doubt is so, and of what was reserved all but what was to be offered still is
  pub free : (retired a).pool.free ≡ []
  pub doubtful : (retired a).pool.doubtful ≡ a.pool.doubtful
  pub reserved : IsKept a → (p : Prefix) → Contains (retired a).pool.reserved p ↔ (Contains a.pool.reserved p × (¬ IsToBeOffered a p))
  -- it offers what it offered, in the sessions in which it gives and in that of its return, which stays exactly where it was requested
  pub giving : IsKept a → GivingStays a.act a.giving (retired a).giving
  pub returns : (r : Return) → ((retired a).back ≡ Some r) ↔ ((a.back ≡ Some r) × (¬ (r.session ≡ None)))
  -- it has no return to request, and no act to do
  pub back : unsent_of (retired a).back ≡ None
  pub act : (retired a).act ≡ None
  -- its number, its stage, its want, its cursor and how its last want ended are the same
  pub same : retired a ≡ record a { pool = (retired a).pool; back = (retired a).back; giving = (retired a).giving; act = None }

abbrev pub AgentsRetire : Type 0
AgentsRetire = (a : AgentState) → RetiringMeans a

-- where a doubtful prefix is settled, what is true of every agent stays so
abbrev pub SettlingKeeps : Type 0
SettlingKeeps = (a : AgentState) (p : Prefix) → IsKept a → Contains a.pool.doubtful p → IsKept (after_settling a p)
