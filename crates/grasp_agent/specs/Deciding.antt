-- When an agent of PrefixManager decides what, said of addresses (RFC 8992, sections 4.1 and 4.2).
use Rattle.std.specs.Prelude.{◌≡◌, ◌↔◌, ◌⊎◌, ℕ, ◌<◌, ◌≤◌, Bool, List, ◌∷◌, ◌++◌, Contains, Option, Some, None}
use Rattle.grasp_cbor.specs.DataItem.{DataItem}
use Rattle.grasp_types.specs.Prefix.{AddressBlock as Prefix}
use Rattle.grasp_pool.specs.Canonical.{IsLowestFree, HasNoFree}
use Rattle.grasp_pool.specs.Holdings.{Holding, IsNew}
use Rattle.grasp_pool.specs.Pools.{IsPool, room_of}
use Rattle.grasp_agent.specs.Decisions.{candidates, giver_decision, requester_decision}
use Rattle.grasp_agent.specs.Values.{asked_in, offered_in, returned_in}
use Rattle.grasp_agent.specs.declared.decision.GiverDecision.{GiverDecision}
use Rattle.grasp_agent.specs.declared.decision.GiverDecision.TheVariants as giver
use Rattle.grasp_agent.specs.declared.decision.Reason.TheVariants.{BadValue, NoLoops, NoPrefix, TooSmall, NotTaken}
use Rattle.grasp_agent.specs.declared.decision.RequesterDecision.{RequesterDecision}
use Rattle.grasp_agent.specs.declared.decision.RequesterDecision.TheVariants as requester

-- of the lengths that a giver tries none before this one is free, and this one is
pub record IsFirstFree (h : Holding) (ns : List ℕ) (p : Prefix) : Type 0 where
  pub tried : Contains ns p.length
  pub least : IsLowestFree h.free p.length p
  pub before : (front : List ℕ) (rest : List ℕ) → ns ≡ front ++ p.length ∷ rest → ¬ Contains front p.length → (m : ℕ) → Contains front m → HasNoFree h.free m

-- none of these lengths is free
abbrev pub NoneIsFree : Holding → List ℕ → Type 0
NoneIsFree h ns = (m : ℕ) → Contains ns m → HasNoFree h.free m

-- the prefix overlaps nothing that the pool has, and there is room for it
abbrev pub FitsPool : Holding → Prefix → Type 0
FitsPool h p = IsNew h p × (0 < room_of h)

-- when a giver decides so. It accepts a prefix that is given back, where it fits the pool. It offers the least free prefix of the first length that is free, where it is asked for a length, loops
-- and room are left and one is free; and it declines for the first of its reasons
abbrev pub GiverDecides : Holding → Option DataItem → ℕ → Bool → GiverDecision → Type 0
GiverDecides h v loops first (giver.Offer p) = (n : ℕ) × (asked_in v ≡ Some n) × (2 ≤ loops) × (128 ≤ room_of h) × IsFirstFree h (candidates n loops first) p
GiverDecides h v loops first (giver.Accept p) = (returned_in v ≡ Some p) × FitsPool h p
GiverDecides h v loops first (giver.Decline BadValue) = (asked_in v ≡ None) × (returned_in v ≡ None)
GiverDecides h v loops first (giver.Decline NoLoops) = (n : ℕ) × (asked_in v ≡ Some n) × (loops ≤ 1)
GiverDecides h v loops first (giver.Decline NoPrefix) =
    (n : ℕ) × (asked_in v ≡ Some n) × (2 ≤ loops) × ((room_of h < 128) ⊎ NoneIsFree h (candidates n loops first))
GiverDecides h v loops first (giver.Decline TooSmall) = ⊥
GiverDecides h v loops first (giver.Decline NotTaken) = (p : Prefix) × (returned_in v ≡ Some p) × (¬ FitsPool h p)

-- a giver decides so exactly then
abbrev pub GiversDecide : Type 0
GiversDecide = (h : Holding) (v : Option DataItem) (loops : ℕ) (first : Bool) (d : GiverDecision) → IsPool h
    → (giver_decision h v loops first ≡ d) ↔ GiverDecides h v loops first d

-- the prefix is shorter than wanted, and loops are left to ask again
abbrev pub MayCounter : ℕ → ℕ → Prefix → Type 0
MayCounter wanted loops p = (p.length < wanted) × (2 ≤ loops)

-- when one decides so that wants a length, and none above the longest. It accepts the prefix that is offered, where it is no
-- longer than the longest, isn't one to ask again for, and fits the pool; and it declines for the first of its reasons
abbrev pub RequesterDecides : Holding → ℕ → ℕ → Option DataItem → ℕ → RequesterDecision → Type 0
RequesterDecides h wanted longest v loops (requester.Accept p) =
    (offered_in v ≡ Some p) × (p.length ≤ longest) × (¬ MayCounter wanted loops p) × FitsPool h p
RequesterDecides h wanted longest v loops (requester.Counter n) =
    (n ≡ wanted) × ((p : Prefix) × (offered_in v ≡ Some p) × (p.length ≤ longest) × MayCounter wanted loops p)
RequesterDecides h wanted longest v loops (requester.Decline BadValue) = offered_in v ≡ None
RequesterDecides h wanted longest v loops (requester.Decline NoLoops) = ⊥
RequesterDecides h wanted longest v loops (requester.Decline NoPrefix) = ⊥
RequesterDecides h wanted longest v loops (requester.Decline TooSmall) = (p : Prefix) × (offered_in v ≡ Some p) × (longest < p.length)
RequesterDecides h wanted longest v loops (requester.Decline NotTaken) =
    (p : Prefix) × (offered_in v ≡ Some p) × (p.length ≤ longest) × (¬ MayCounter wanted loops p) × (¬ FitsPool h p)

-- a requester makes a decision exactly when the decision's condition holds
abbrev pub RequestersDecide : Type 0
RequestersDecide = (h : Holding) (wanted longest : ℕ) (v : Option DataItem) (loops : ℕ) (d : RequesterDecision)
    → (requester_decision h wanted longest v loops ≡ d) ↔ RequesterDecides h wanted longest v loops d
