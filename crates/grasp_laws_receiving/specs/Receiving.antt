-- What a session makes of a message that comes: it keeps it, ignores it, or takes it for bad (RFC 8990, sections 2.5.5, 2.5.6.1 and 2.8).
use Rattle.std.specs.Prelude.{◌≡◌, ◌≢◌, ◌≤◌, ◌<◌, ◌↔◌, ◌⊎◌, ℕ, true, false}
use Rattle.grasp_types.specs.declared.message.Message.{Message}
use Rattle.grasp_types.specs.declared.message.Message.TheVariants.{Noop, Discovery, Response, ReqNeg, ReqSyn, Negotiate, End, Wait, Synch, Flood, Invalid}
use Rattle.grasp_types.specs.declared.message.Verdict.{Verdict}
use Rattle.grasp_types.specs.declared.message.Verdict.TheVariants.{Accept, Decline}
use Rattle.grasp_types.specs.declared.objective.Objective.{Objective}
use Rattle.grasp_types.specs.declared.session.Kind.TheVariants.{Negotiation}
use Rattle.grasp_session.specs.declared.answer.Received.{Received}
use Rattle.grasp_session.specs.declared.answer.Received.TheVariants.{Kept, Ignored, Bad}
use Rattle.grasp_session.specs.Transcript.{Transcript, session_of, request_of, last_offer, waits_of, is_mine, is_going, receive}
use Rattle.grasp_laws_tables.specs.Synchronizations.{IsAwaited}

-- the message has the session's number, and it is the peer's turn
pub record IsInTurn (v : Transcript) (n : ℕ) : Type 0 where
  pub number : n ≡ session_of v
  pub turn : is_mine v ≡ false

-- a step of the peer: the session is a negotiation, the name and the flags are the request's, and the loop count is 1 or more, and less than that of
-- the last offer
pub record IsStep (v : Transcript) (n : ℕ) (o : Objective) : Type 0 where
  pub kind : v.kind ≡ Negotiation
  pub in_turn : IsInTurn v n
  pub name : o.name ≡ (request_of v).name
  pub flags : o.flags ≡ (request_of v).flags
  pub some : 1 ≤ o.loops
  pub fewer : o.loops < (last_offer v).loops

-- an end by the peer: only a negotiation ends by an acceptance
abbrev pub IsEnd : Transcript → ℕ → Verdict → Type 0
IsEnd v n Accept = (v.kind ≡ Negotiation) × IsInTurn v n
IsEnd v n (Decline reason) = IsInTurn v n

-- what a session that goes on keeps: in the peer's turn a step, at most 4 waits, an end and an M_SYNCH, and at any time an M_INVALID
abbrev pub IsKept : Transcript → Message → Type 0
IsKept v Noop = ⊥
IsKept v (Discovery session initiator o) = ⊥
IsKept v (Response session initiator ttl told o) = ⊥
IsKept v (ReqNeg session o) = ⊥
IsKept v (ReqSyn session o) = ⊥
IsKept v (Negotiate session o) = IsStep v session o
IsKept v (End session verdict) = IsEnd v session verdict
IsKept v (Wait session millis) = IsInTurn v session × (waits_of v < 4)
IsKept v (Synch session o) = IsAwaited v session o
IsKept v (Flood session initiator ttl parts) = ⊥
IsKept v (Invalid session detail) = Unit {0}

-- a session that goes on ignores a noop, and one that is over ignores everything; what is neither kept nor ignored is bad
abbrev pub Receives : Transcript → Message → Received → Type 0
Receives v m Kept = (is_going v ≡ true) × IsKept v m
Receives v m Ignored = (is_going v ≡ false) ⊎ (m ≡ Noop)
Receives v m Bad = (is_going v ≡ true) × (m ≢ Noop) × ¬ IsKept v m

-- each message at each transcript
abbrev pub MessagesAreReceived : Type 0
MessagesAreReceived = (v : Transcript) (m : Message) (r : Received) → receive v m ≡ r ↔ Receives v m r
