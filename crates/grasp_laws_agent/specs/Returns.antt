-- How prefixes are given back, said without the functions that decide it: the value that is read, what the beginning of a return answers and
-- leaves, the requests of a return and of a want, the order of the duties, what settles a doubtful prefix, and which calls are made again.
use Rattle.std.specs.Prelude.{◌≡◌, ◌↔◌, ◌⊎◌, ℕ, ◌+◌, ◌<◌, ◌≤◌, true, false, List, [], ◌∷◌, ◌++◌, length, slice_get, Option, Some, None, IfSome, Result, Ok, Err, Contains, codes}
use Rattle.std.specs.Int.{to_be_bytes, w128}
use Rattle.grasp_cbor.specs.DataItem.{DataItem, unsigned, byte_string, simple_value, array_of}
use Rattle.grasp_types.specs.Objective.{IsValue}
use Rattle.grasp_types.specs.Prefix.{AddressBlock as Prefix, span_of, IsPrefix}
use Rattle.grasp_types.specs.declared.address.Locator.{Locator}
use Rattle.grasp_types.specs.declared.call.Call.TheVariants as call
use Rattle.grasp_types.specs.declared.refusal.ApiRefused.TheVariants as refusal
use Rattle.grasp_types.specs.declared.reply.Reply.{Reply}
use Rattle.grasp_types.specs.declared.reply.Reply.TheVariants as reply
use Rattle.grasp_types.specs.declared.session.Handle.{Handle}
use Rattle.grasp_pool.specs.Holdings.{Holding, IsFree, Reserves, Settles}
use Rattle.grasp_pool.specs.Pools.{IsPool, room_of}
use Rattle.grasp_agent.specs.Calls.{next_call}
use Rattle.grasp_agent.specs.Replies.{return_reply, after_return, after_settling, is_again, after_reply}
use Rattle.grasp_agent.specs.States.{AgentState, duties, duty_of}
use Rattle.grasp_agent.specs.Values.{returned_in}
use Rattle.grasp_agent.specs.declared.back.Return.{Return}
use Rattle.grasp_agent.specs.declared.back.ReturnFault.{ReturnFault}
use Rattle.grasp_agent.specs.declared.back.ReturnFault.TheVariants.{Busy, NotFree, Full}
use Rattle.grasp_agent.specs.declared.duty.Duty.{Duty}
use Rattle.grasp_agent.specs.declared.duty.Duty.TheVariants as duty
use Rattle.grasp_agent.specs.declared.giving.Giving.{Giving}
use Rattle.grasp_agent.specs.declared.stage.Stage.TheVariants.{Serving}
use Rattle.grasp_agent.specs.declared.want.Want.{Want}

-- ---- values

-- the value that asks for a length: [length]
abbrev pub asking_item : ℕ → DataItem
asking_item n = array_of (unsigned n ∷ [])

-- the value that gives a prefix back: [length, the 16 bytes of its address, true]
abbrev pub returning_item : Prefix → DataItem
returning_item p = array_of (unsigned p.length ∷ byte_string (to_be_bytes w128 p.address) ∷ simple_value 21 ∷ [])

-- a prefix that is given back is read exactly from the value that gives it back, and from no value none is
abbrev pub ReturnsAreRead : Type 0
ReturnsAreRead = ((v : DataItem) (p : Prefix) → IsValue v → (returned_in (Some v) ≡ Some p) ↔ (IsPrefix p.address p.length × (v ≡ returning_item p)))
    × (returned_in None ≡ None)

-- ---- the beginning of a return

-- each address of the prefix is free
abbrev pub IsAllFree : Holding → Prefix → Type 0
IsAllFree h p = (a : ℕ) → span_of p a → IsFree h a

-- when the beginning of a return is answered so: there is no other return, the prefix is all free, and there is room for the rest; or which
-- of these fails first
abbrev pub IsAnswered : AgentState → Prefix → Result (Unit {0}) ReturnFault → Type 0
IsAnswered s p (Ok done) = (s.back ≡ None) × IsAllFree s.pool p × (128 ≤ room_of s.pool)
IsAnswered s p (Err (Busy q)) = (r : Return) × (s.back ≡ Some r) × (r.prefix ≡ q)
IsAnswered s p (Err NotFree) = (s.back ≡ None) × (¬ IsAllFree s.pool p)
IsAnswered s p (Err Full) = (s.back ≡ None) × IsAllFree s.pool p × (room_of s.pool < 128)

-- the prefix is reserved, its return to this peer isn't requested yet, and all else is the same
pub record IsBegun (old new : AgentState) (p : Prefix) (peer : Locator) : Type 0 where
  pub reserves : Reserves old.pool new.pool p
  pub begun : new.back ≡ Some (record { prefix = p; peer = peer; session = None })
  pub same : new ≡ record old { pool = new.pool; back = new.back }

-- what an answer leaves: with a fault the agent is the same
abbrev pub Leaves : AgentState → AgentState → Prefix → Locator → Result (Unit {0}) ReturnFault → Type 0
Leaves old new p peer (Ok done) = IsBegun old new p peer
Leaves old new p peer (Err fault) = new ≡ old

-- the beginning of a return is answered exactly so, and leaves that
abbrev pub ReturnsAreAnswered : Type 0
ReturnsAreAnswered = (s : AgentState) (p : Prefix) → IsPool s.pool → IsPrefix p.address p.length
    → ((x : Result (Unit {0}) ReturnFault) → (return_reply s p ≡ x) ↔ IsAnswered s p x)
    × ((peer : Locator) → Leaves s (after_return s p peer (return_reply s p)) p peer (return_reply s p))

-- ---- requests

-- the want, where there is one, was requested
abbrev pub HasAsked : Option Want → Type 0
HasAsked want = IfSome want (λ w. ¬ (w.session ≡ None))

-- an agent that serves and has no act asks for what it wants: by a negotiation with its length, 6 loops and 60000 ms, which isn't dry
abbrev pub WantsAreRequested : Type 0
WantsAreRequested = (s : AgentState) (w : Want) → s.stage ≡ Serving → s.act ≡ None → s.want ≡ Some w → w.session ≡ None
    → next_call s ≡ call.RequestNegotiate (codes "PrefixManager") (asking_item w.length) 6 60000 false w.peer

-- and where it has no want to request it offers what it gives back: by a negotiation with its prefix, one loop and 60000 ms, which isn't dry
abbrev pub ReturnsAreRequested : Type 0
ReturnsAreRequested = (s : AgentState) (r : Return) → s.stage ≡ Serving → s.act ≡ None → HasAsked s.want → s.back ≡ Some r → r.session ≡ None
    → next_call s ≡ call.RequestNegotiate (codes "PrefixManager") (returning_item r.prefix) 1 60000 false r.peer

-- ---- duties

-- the duty of a session, where it was requested
abbrev pub session_duty : (Handle → Duty) → Option Handle → List Duty
session_duty duty_for None = []
session_duty duty_for (Some h) = duty_for h ∷ []

abbrev pub want_duties : Option Want → List Duty
want_duties None = []
want_duties (Some w) = session_duty duty.Want w.session

abbrev pub return_duties : Option Return → List Duty
return_duties None = []
return_duties (Some r) = session_duty duty.Return r.session

-- the duties of these giving sessions, of which the first stands at this place
abbrev pub giving_duties : ℕ → List Giving → List Duty
giving_duties place [] = []
giving_duties place (g ∷ gs) = duty.Give place g.handle ∷ giving_duties (place + 1) gs

-- all duties of an agent: to listen, then the want's session, that of the return, and the giving sessions in their order
abbrev pub duty_list : AgentState → List Duty
duty_list s = duty.Listen ∷ (want_duties s.want ++ (return_duties s.back ++ giving_duties 0 s.giving))

-- an agent has as many duties as the list, and the next one is that at the cursor
abbrev pub DutiesAreInOrder : Type 0
DutiesAreInOrder = (s : AgentState) → (length (duty_list s) ≡ duties s) × (s.cursor < duties s → slice_get (duty_list s) s.cursor ≡ Some (duty_of s))

-- ---- settlings

-- a doubtful prefix that is settled is free, and all else is the same
abbrev pub SettlingsSettle : Type 0
SettlingsSettle = (s : AgentState) (p : Prefix) → IsPool s.pool → Contains s.pool.doubtful p
    → Settles s.pool (after_settling s p).pool p × (after_settling s p ≡ record s { pool = (after_settling s p).pool })

-- ---- calls that are made again

-- the queue had no room for the call's outputs, or there was no memory
abbrev pub IsPassing : Reply → Type 0
IsPassing r = (r ≡ reply.Refused refusal.OutboxFull) ⊎ (r ≡ reply.Refused refusal.OutOfMemory) ⊎ (r ≡ reply.OutOfMemory)

-- a call is made again exactly after these replies, which leave the agent as it is
abbrev pub RefusalsAreRepeated : Type 0
RefusalsAreRepeated = (r : Reply) → ((is_again r ≡ true) ↔ IsPassing r) × ((s : AgentState) → is_again r ≡ true → after_reply s r ≡ s)
