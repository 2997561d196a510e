-- The end of an agent's life, and when an agent may be opened anew by an image of a pool (RFC 8992, sections 4.1 and 4.2).
use Rattle.std.specs.Prelude.{ℕ, ◌+◌, ◌≤◌, ◌⊎◌, [], length, Contains, Option, Some, None}
use Rattle.grasp_types.specs.Prefix.{AddressBlock as Prefix, span_of}
use Rattle.grasp_pool.specs.Holdings.{IsFree, IsListed}
use Rattle.grasp_pool.specs.Listings.{AreDisjoint, all_of}
use Rattle.grasp_pool.specs.Spans.{Covers}
use Rattle.grasp_pool.specs.declared.image.PoolImage.{PoolImage}
use Rattle.grasp_agent.specs.Laws.{IsToBeOffered}
use Rattle.grasp_agent.specs.Replies.{after_dropping, after_unsent}
use Rattle.grasp_agent.specs.States.{AgentState, unsent_of}
use Rattle.grasp_agent.specs.declared.act.Act.{Act}

-- ---- an agent whose life ends

-- an act that isn't done is dropped, as where it is refused
abbrev pub without_act : AgentState → Option Act → AgentState
without_act a None = a
without_act a (Some act) = after_dropping a act

-- a return that wasn't requested is dropped, as where its request is refused
abbrev pub without_return : AgentState → Option Prefix → AgentState
without_return a None = a
without_return a (Some p) = after_unsent a a.back

-- it holds nothing
abbrev pub holding_nothing : AgentState → AgentState
holding_nothing a = record a { pool = record a.pool { free = [] } }

-- what an agent is at the end of its life: it has nothing to offer that it hasn't offered, and holds nothing. What it has offered, and what
-- it has in doubt, stays
abbrev pub retired : AgentState → AgentState
retired a = holding_nothing (without_return (without_act a a.act) (unsent_of a.back))

-- ---- an agent that is opened anew

-- the address is in a prefix that was to be offered
abbrev pub IsToOffer : AgentState → ℕ → Type 0
IsToOffer a x = (p : Prefix) × IsToBeOffered a p × span_of p x

-- an agent may be opened anew by this image: a pool can have it, what is to be free was free at the agent or in a prefix that was to be
-- offered, and all that it had offered or in doubt is to be in doubt
pub record MayReopen (a : AgentState) (image : PoolImage) : Type 0 where
  pub few : length image.free + length image.doubtful ≤ 4096
  pub disjoint : AreDisjoint (all_of image)
  pub free : (x : ℕ) → Covers image.free x → IsFree a.pool x ⊎ IsToOffer a x
  pub doubtful : (p : Prefix) → IsListed (retired a).pool p → Contains image.doubtful p
