-- Inside: what an image of a pool may have, for an agent that is opened anew by it.
use Rattle.std.specs.Prelude.{◌≡◌, ℕ, ◌⊎◌, true, List, Contains, Option, None, Some}
use Rattle.grasp_agent.specs.Reopening.{IsToOffer, retired}
use Rattle.grasp_agent.specs.States.{AgentState}
use Rattle.grasp_model_network.specs.Offers.{is_listed}
use Rattle.grasp_pool.specs.Canonical.{IsInside}
use Rattle.grasp_pool.specs.Holdings.{IsFree, IsListed}
use Rattle.grasp_pool.specs.Spans.{Covers}
use Rattle.grasp_types.specs.Prefix.{AddressBlock as Prefix, span_of}

-- Inside: each address of the prefix is free at the agent, or in a prefix that was to be offered
abbrev pub IsToBeHad : AgentState → Prefix → Type 0
IsToBeHad a p = (x : ℕ) → span_of p x → IsFree a.pool x ⊎ IsToOffer a x

-- Inside: each address of these is
abbrev pub AreToBeHad : AgentState → List Prefix → Type 0
AreToBeHad a ps = (x : ℕ) → Covers ps x → IsFree a.pool x ⊎ IsToOffer a x

-- Inside: there is a prefix, and this one lies in it
abbrev pub IsIn : Option Prefix → Prefix → Type 0
IsIn None p = ⊥
IsIn (Some q) p = IsInside p q

-- Inside: these have each prefix that the agent has offered or in doubt at the end of its life
abbrev pub HasAllLeft : AgentState → List Prefix → Type 0
HasAllLeft a ps = (p : Prefix) → IsListed (retired a).pool p → Contains ps p

-- Inside: these have the prefix, where there is one and it is such a one
abbrev pub IsAmong : AgentState → List Prefix → Option Prefix → Type 0
IsAmong a ps None = Unit {0}
IsAmong a ps (Some p) = is_listed (retired a).pool p ≡ true → Contains ps p
