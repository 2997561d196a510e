-- What the decisions of an agent of PrefixManager mean for addresses.
use Rattle.std.specs.Prelude.{◌≡◌, ◌↔◌, ◌⊎◌, ℕ, ◌<◌, ◌≤◌, ◌^◌, Bool, false, All, List, [], ◌∷◌, Option, Some, None, IsSome, Contains, slice_get}
use Rattle.std.specs.Int.{to_be_bytes, w128}
use Rattle.grasp_cbor.specs.DataItem.{DataItem, unsigned, byte_string, array_of}
use Rattle.grasp_types.specs.Objective.{IsValue}
use Rattle.grasp_types.specs.Prefix.{AddressBlock as Prefix, span_of, IsPrefix}
use Rattle.grasp_types.specs.declared.reply.Reply.{Reply}
use Rattle.grasp_types.specs.declared.reply.Reply.TheVariants as reply
use Rattle.grasp_types.specs.declared.reply.ApiAnswer.TheVariants as answer
use Rattle.grasp_types.specs.declared.session.By.TheVariants.{Theirs}
use Rattle.grasp_types.specs.declared.session.Handle.{Handle}
use Rattle.grasp_types.specs.declared.session.Outcome.{Outcome}
use Rattle.grasp_types.specs.declared.session.Outcome.TheVariants as outcome
use Rattle.grasp_types.specs.declared.session.Progress.{Progress}
use Rattle.grasp_types.specs.declared.session.Progress.TheVariants as progress
use Rattle.grasp_pool.specs.Canonical.{HasNoFree}
use Rattle.grasp_pool.specs.Holdings.{Holding, IsFree, IsListed}
use Rattle.grasp_pool.specs.Pools.{IsPool, room_of}
use Rattle.grasp_agent.specs.Deciding.{IsFirstFree}
use Rattle.grasp_agent.specs.Decisions.{candidates, giver_decision}
use Rattle.grasp_agent.specs.Kept.{IsKept}
use Rattle.grasp_agent.specs.Replies.{AgentEvent, wanted, returned, replied, answer_in, refused_in, is_again, progress_in, after_reply, agent_after}
use Rattle.grasp_agent.specs.States.{AgentState, duties, duty_of}
use Rattle.grasp_agent.specs.Values.{asked_in, offered_in, length_value, prefix_value}
use Rattle.grasp_agent.specs.declared.act.Act.TheVariants as act
use Rattle.grasp_agent.specs.declared.decision.GiverDecision.TheVariants.{Offer}
use Rattle.grasp_agent.specs.declared.back.Return.{Return}
use Rattle.grasp_agent.specs.declared.duty.Duty.TheVariants as duty
use Rattle.grasp_agent.specs.declared.giving.Giving.{Giving}

-- a value that asks for this length: [length], or [length, the 16 bytes of any address]
abbrev pub AsksFor : DataItem → ℕ → Type 0
AsksFor v n = (1 ≤ n) × (n ≤ 128) × ((v ≡ length_value n) ⊎ ((a : ℕ) × (a < 2 ^ 128) × (v ≡ array_of (unsigned n ∷ byte_string (to_be_bytes w128 a) ∷ []))))

-- a length is read exactly from a value that asks for it
abbrev pub LengthsAreRead : Type 0
LengthsAreRead = (v : DataItem) (n : ℕ) → IsValue v → (asked_in (Some v) ≡ Some n) ↔ AsksFor v n

-- a prefix is read exactly from the value that offers it
abbrev pub PrefixesAreRead : Type 0
PrefixesAreRead = (v : DataItem) (p : Prefix) → IsValue v → (offered_in (Some v) ≡ Some p) ↔ (IsPrefix p.address p.length × (v ≡ prefix_value p))

-- a giver that is asked for a length, with loops and room enough and something free, offers the least free prefix of the first length that is free
abbrev pub GiversOffer : Type 0
GiversOffer = (h : Holding) (v : DataItem) (n loops m : ℕ) (first : Bool) → IsPool h → asked_in (Some v) ≡ Some n → 2 ≤ loops → 128 ≤ room_of h
    → Contains (candidates n loops first) m → ¬ HasNoFree h.free m
    → (p : Prefix) × (giver_decision h (Some v) loops first ≡ Offer p) × IsFirstFree h (candidates n loops first) p

-- the lengths of what is wanted are those of prefixes, and in order
abbrev pub IsPossible : AgentEvent → Type 0
IsPossible (wanted n longest peer) = (1 ≤ n) × (n ≤ longest) × (longest ≤ 128)
IsPossible (returned p peer) = IsPrefix p.address p.length
IsPossible (replied r) = Unit {0}

-- whatever happens to an agent that is opened with a pool in which nothing is reserved, what is reserved is exactly what it offers
abbrev pub AgentsAreKept : Type 0
AgentsAreKept = (h : Holding) (events : List AgentEvent) → IsPool h → h.reserved ≡ [] → All (λ e. IsPossible e) events → IsKept (agent_after h events)

-- an agent always has a next duty, whatever happens to it
abbrev pub ThereIsADuty : Type 0
ThereIsADuty = (h : Holding) (events : List AgentEvent) → (agent_after h events).cursor < duties (agent_after h events)

-- the outcome is the peer's acceptance or its decline
abbrev pub IsPeersEnd : Outcome → Type 0
IsPeersEnd (outcome.Agreed Theirs o) = Unit {0}
IsPeersEnd (outcome.Declined Theirs reason) = Unit {0}
IsPeersEnd _ = ⊥

-- the session ended by the peer's acceptance or its decline, or the turn is the giver's again
abbrev pub MayEnd : Option Progress → Type 0
MayEnd None = ⊥
MayEnd (Some progress.NotYet) = ⊥
MayEnd (Some (progress.Turn o)) = Unit {0}
MayEnd (Some (progress.Ended outcome)) = IsPeersEnd outcome

-- the next duty is of the session in which p is offered: of a giving session, or of the return's
pub data IsOffersDuty (s : AgentState) (p : Prefix) : Type 0 where
  of_entry : (place : ℕ) (g : Giving) → duty_of s ≡ duty.Give place g.handle → slice_get s.giving place ≡ Some g → g.offer ≡ Some p → IsOffersDuty s p
  of_return : (h : Handle) (r : Return) → duty_of s ≡ duty.Return h → s.back ≡ Some r → r.session ≡ Some h → r.prefix ≡ p → IsOffersDuty s p

-- the reply tells of the session that offers p
pub record IsTold (s : AgentState) (r : Reply) (p : Prefix) : Type 0 where
  pub idle : s.act ≡ None
  pub offers : IsOffersDuty s p
  pub told : MayEnd (progress_in (answer_in r))

-- p was to be offered: it is that of an act, or of a return that wasn't requested
pub data IsToBeOffered (s : AgentState) (p : Prefix) : Type 0 where
  by_act : (place : ℕ) (h : Handle) → s.act ≡ Some (act.Offer place h p) → IsToBeOffered s p
  by_return : (r : Return) → s.back ≡ Some r → r.session ≡ None → r.prefix ≡ p → IsToBeOffered s p

-- p was to be offered, and the node refused it, so that it was never sent
pub record IsUnsent (s : AgentState) (r : Reply) (p : Prefix) : Type 0 where
  pub offer : IsToBeOffered s p
  pub refused : IsSome (refused_in r)
  pub last : is_again r ≡ false

-- a doubtful prefix stays in doubt
abbrev pub DoubtsStay : Type 0
DoubtsStay = (s : AgentState) (r : Reply) (p : Prefix) → IsKept s → Contains s.pool.doubtful p → Contains (after_reply s r).pool.doubtful p

-- an offer stays reserved, or is in doubt, until its session tells what became of it: where the session breaks, times out or
-- becomes invalid it stays so
abbrev pub OffersStayListed : Type 0
OffersStayListed = (s : AgentState) (r : Reply) (p : Prefix) → IsKept s → Contains s.pool.reserved p → IsListed (after_reply s r).pool p ⊎ (IsTold s r p ⊎ IsUnsent s r p)

-- an address that becomes free was an offer's, or lies in the prefix whose acceptance is done
abbrev pub GainsAreAccepted : Type 0
GainsAreAccepted = (s : AgentState) (r : Reply) (a : ℕ) → IsKept s → IsFree (after_reply s r).pool a
    → IsFree s.pool a ⊎ (((p : Prefix) × Contains s.pool.reserved p × span_of p a) ⊎ ((h : Handle) × (p : Prefix) × (s.act ≡ Some (act.Accept h p)) × (r ≡ reply.Api answer.Done) × span_of p a))
