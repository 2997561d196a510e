-- What is true of every agent of PrefixManager, whatever it is answered.
use Rattle.std.specs.Prelude.{◌≡◌, ◌↔◌, ℕ, ◌≤◌, true, false, All, List, [], ◌∷◌, length, slice_get, Option, Some, None, IfSome, Contains, AllPairs}
use Rattle.grasp_types.specs.Prefix.{AddressBlock as Prefix, IsPrefix}
use Rattle.grasp_types.specs.declared.session.Handle.{Handle}
use Rattle.grasp_pool.specs.Pools.{IsPool}
use Rattle.grasp_pool.specs.Functions.{can_gain}
use Rattle.grasp_agent.specs.States.{AgentState, is_open, want_session, want_length, back_session}
use Rattle.grasp_agent.specs.declared.act.Act.{Act}
use Rattle.grasp_agent.specs.declared.act.Act.TheVariants.{Offer, Counter, Accept, Decline}
use Rattle.grasp_agent.specs.declared.back.Return.{Return}
use Rattle.grasp_agent.specs.declared.giving.Giving.{Giving}
use Rattle.grasp_agent.specs.declared.want.Want.{Want}

-- an offer before others, where there is one
abbrev pub offer_and : Option Prefix → List Prefix → List Prefix
offer_and None ps = ps
offer_and (Some p) ps = p ∷ ps

-- what the giving sessions offer
abbrev pub offers : List Giving → List Prefix
offers [] = []
offers (g ∷ gs) = offer_and g.offer (offers gs)

-- the prefix that the agent gives back
abbrev pub returned : Option Return → Option Prefix
returned None = None
returned (Some r) = Some r.prefix

-- all that it offers
abbrev pub offered : AgentState → List Prefix
offered s = offer_and (returned s.back) (offers s.giving)

-- the session of the duty in which the agent accepts: the want's, or a giving session that offers nothing
pub data MayAccept (session : Option Handle) (giving : List Giving) (h : Handle) : Type 0 where
  accepts_in_want : session ≡ Some h → MayAccept session giving h
  accepts_in_giving : (place : ℕ) (g : Giving) → slice_get giving place ≡ Some g → g.handle ≡ h → g.offer ≡ None → MayAccept session giving h

-- the session of the duty in which the agent declines: the want's, or a giving session that offers nothing
pub data MayDecline (session : Option Handle) (giving : List Giving) (h : Handle) : Type 0 where
  declines_in_want : session ≡ Some h → MayDecline session giving h
  declines_in_giving : (place : ℕ) (g : Giving) → slice_get giving place ≡ Some g → g.handle ≡ h → g.offer ≡ None → MayDecline session giving h

-- an act that isn't done: an offer stands in its giving session; a counter asks in the want's session for the want's length; what
-- is to be accepted is a prefix that can be gained; and each other act is of a duty's session, too
abbrev pub ActStands : AgentState → Act → Type 0
ActStands s (Offer place handle p) = slice_get s.giving place ≡ Some (record { handle = handle; offer = Some p; first = false })
ActStands s (Counter handle n) = (want_session s.want ≡ Some handle) × (want_length s.want ≡ Some n)
ActStands s (Accept handle p) = MayAccept (want_session s.want) s.giving handle × IsPrefix p.address p.length × (can_gain s.pool p ≡ true)
ActStands s (Decline handle reason) = MayDecline (want_session s.want) s.giving handle

-- a giving session that has offered nothing yet has no offer
abbrev pub IsFresh : Giving → Type 0
IsFresh g = g.first ≡ true → g.offer ≡ None

-- the lengths of a want are those of prefixes, and in order
abbrev pub IsInRange : Want → Type 0
IsInRange w = (1 ≤ w.length) × (w.length ≤ w.longest) × (w.longest ≤ 128)

-- the agent has no session and nothing to do
abbrev pub IsIdle : AgentState → Type 0
IsIdle s = (s.giving ≡ []) × (want_session s.want ≡ None) × (back_session s.back ≡ None) × (s.act ≡ None)

pub record IsKept (s : AgentState) : Type 0 where
  pub pool : IsPool s.pool
  -- at most 64 giving sessions
  pub few : length s.giving ≤ 64
  -- what is reserved is what the agent gives back and what the giving sessions offer, each prefix once
  pub reserved : (p : Prefix) → Contains s.pool.reserved p ↔ Contains (offered s) p
  pub once : AllPairs (λ p q. ¬ (p ≡ q)) (offered s)
  pub first : All (λ g. IsFresh g) s.giving
  pub want : IfSome s.want (λ w. IsInRange w)
  -- before its opening calls are done it is idle
  pub idle : is_open s.stage ≡ false → IsIdle s
  pub act : IfSome s.act (λ act. ActStands s act)
