-- What the two ends of a session say to each other, newest first, and what may be said next (RFC 8990, section 2.5.5).
use Rattle.std.specs.Prelude.{◌≡◌, ℕ, ◌+◌, ◌<◌, ◌≤◌, Bool, true, false, cond, ◌&&◌, ◌||◌, ◌⊎◌, List, [], ◌∷◌, Option}
use Rattle.grasp_types.specs.declared.objective.Objective.{Objective}
use Rattle.grasp_types.specs.declared.message.Verdict.TheVariants.{Decline}
use Rattle.grasp_types.specs.declared.message.Message.{Message}
use Rattle.grasp_types.specs.declared.message.Message.TheVariants.{ReqNeg, ReqSyn, Negotiate, Wait, End, Invalid}
use Rattle.grasp_session.specs.Messages.{Side, Near, Far, other, is_side, no_objective, is_invalid, is_end, is_acceptance, is_offer}

-- a message with the side that says it
pub record Said : Type 0 where
  pub side : Side
  pub message : Message

abbrev pub says : Side → Message → Said
says side message = record { side = side; message = message }

-- without the invalid messages
abbrev pub strip : List Said → List Said
strip [] = []
strip (x ∷ c) = cond (is_invalid x.message) (strip c) (x ∷ strip c)

-- something was said
abbrev pub begun : List Said → Bool
begun [] = false
begun (x ∷ c) = true

-- the newest is an end
abbrev pub ended : List Said → Bool
ended [] = false
ended (x ∷ c) = is_end x.message

-- the newest is an acceptance of this side
abbrev pub accepted_by : Side → List Said → Bool
accepted_by side [] = false
accepted_by side (x ∷ c) = is_side side x.side && is_acceptance x.message

-- a decline with this reason
abbrev pub DeclinesWith : Option (List ℕ) → Message → Type 0
DeclinesWith reason (End n (Decline given)) = given ≡ reason
DeclinesWith reason _ = ⊥

-- the newest is a decline of this side with this reason
abbrev pub IsDeclined : Side → Option (List ℕ) → List Said → Type 0
IsDeclined side reason [] = ⊥
IsDeclined side reason (x ∷ c) = (x.side ≡ side) × DeclinesWith reason x.message

-- this side said a request or a step
abbrev pub has_offered : Side → List Said → Bool
has_offered side [] = false
has_offered side (x ∷ c) = (is_side side x.side && is_offer x.message) || has_offered side c

-- whose turn it is: the listener's after the request, and each step passes it
abbrev pub turn : List Said → Side
turn [] = Near
turn (x ∷ c) = after x.message (turn c) where
  after : Message → Side → Side
  after (ReqNeg n o) t = Far
  after (ReqSyn n o) t = Far
  after (Negotiate n o) t = other t
  after _ t = t

-- the waits since the last step or the request
abbrev pub waits : List Said → ℕ
waits [] = 0
waits (x ∷ c) = after x.message (waits c) where
  after : Message → ℕ → ℕ
  after (ReqNeg n o) k = 0
  after (ReqSyn n o) k = 0
  after (Negotiate n o) k = 0
  after (Wait n m) k = k + 1
  after _ k = k

-- the steps of both sides
abbrev pub steps : List Said → ℕ
steps [] = 0
steps (x ∷ c) = after x.message (steps c) where
  after : Message → ℕ → ℕ
  after (Negotiate n o) k = k + 1
  after _ k = k

-- the request's session number
abbrev pub number : List Said → ℕ
number [] = 0
number (x ∷ c) = after x.message (number c) where
  after : Message → ℕ → ℕ
  after (ReqNeg n o) k = n
  after (ReqSyn n o) k = n
  after _ k = k

-- the request's objective
abbrev pub requested : List Said → Objective
requested [] = no_objective
requested (x ∷ c) = after x.message (requested c) where
  after : Message → Objective → Objective
  after (ReqNeg n o) k = o
  after (ReqSyn n o) k = o
  after _ k = k

-- what a message offers, or what was offered before
abbrev pub offer_in : Message → Objective → Objective
offer_in (ReqNeg n o) k = o
offer_in (ReqSyn n o) k = o
offer_in (Negotiate n o) k = o
offer_in _ k = k

-- the last offer of either side
abbrev pub newest_offer : List Said → Objective
newest_offer [] = no_objective
newest_offer (x ∷ c) = offer_in x.message (newest_offer c)

-- the last offer of this side
abbrev pub newest_offer_by : Side → List Said → Objective
newest_offer_by side [] = no_objective
newest_offer_by side (x ∷ c) = cond (is_side side x.side) (offer_in x.message (newest_offer_by side c)) (newest_offer_by side c)

-- after this side's last offer the other side said a step or an end
abbrev pub answered : Side → List Said → Bool
answered side [] = false
answered side (x ∷ c) = cond (is_side side x.side) (own x.message (answered side c)) (theirs x.message (answered side c)) where
  own : Message → Bool → Bool
  own (ReqNeg n o) b = false
  own (ReqSyn n o) b = false
  own (Negotiate n o) b = false
  own _ b = b

  theirs : Message → Bool → Bool
  theirs (Negotiate n o) b = true
  theirs (End n v) b = true
  theirs _ b = b

-- the conversation goes on, and this side may speak in it under this session number
pub record Going (c : List Said) (side : Side) (session : ℕ) : Type 0 where
  pub has_begun : begun c ≡ true
  pub no_end : ended c ≡ false
  pub in_turn : side ≡ turn c
  pub same_number : session ≡ number c

-- a step: the request's name and flags, and the last loop count less one, which is at least 1
pub record Lowers (c : List Said) (o : Objective) : Type 0 where
  pub name : o.name ≡ (requested c).name
  pub flags : o.flags ≡ (requested c).flags
  pub lower : o.loops + 1 ≡ (newest_offer c).loops
  pub some_left : 1 ≤ o.loops

-- what may be said next: the request first, and then by the side whose turn it is at most 4 waits, and a step or an end
abbrev pub MayFollow : List Said → Said → Type 0
MayFollow c x = by_message x.message where
  by_message : Message → Type 0
  by_message (ReqNeg n o) = (begun c ≡ false) × (x.side ≡ Near)
  by_message (Negotiate n o) = Going c x.side n × Lowers c o
  by_message (Wait n m) = Going c x.side n × (waits c < 4)
  by_message (End n v) = Going c x.side n
  by_message _ = ⊥

-- each message may follow those before it
abbrev pub IsLegal : List Said → Type 0
IsLegal [] = Unit {0}
IsLegal (x ∷ c) = MayFollow c x × IsLegal c

-- this side has said an invalid message
abbrev pub gave_up : Side → List Said → Bool
gave_up side [] = false
gave_up side (x ∷ c) = (is_side side x.side && is_invalid x.message) || gave_up side c

-- each invalid message is the last message of its side
abbrev pub InvalidsLast : List Said → Type 0
InvalidsLast [] = Unit {0}
InvalidsLast (x ∷ c) = (gave_up x.side c ≡ false) × InvalidsLast c

-- a message with this session number
abbrev pub HasNumber : ℕ → Message → Type 0
HasNumber n (ReqNeg k o) = k ≡ n
HasNumber n (ReqSyn k o) = k ≡ n
HasNumber n (Negotiate k o) = k ≡ n
HasNumber n (Wait k m) = k ≡ n
HasNumber n (End k v) = k ≡ n
HasNumber n (Invalid k d) = k ≡ n
HasNumber n _ = ⊥

-- all messages have this session number
abbrev pub HaveNumber : ℕ → List Said → Type 0
HaveNumber n [] = Unit {0}
HaveNumber n (x ∷ c) = HasNumber n x.message × HaveNumber n c

-- the order of the messages of one negotiation, which all have one session number, the request's (RFC 8990, sections 2.5.5, 2.7 and 2.8.12)
pub record IsLegalConversation (said : List Said) : Type 0 where
  pub legal : IsLegal (strip said)
  pub last : InvalidsLast said
  pub session : ℕ
  pub numbered : HaveNumber session said

-- v is an earlier part of c, and what came since is all of the other side than this one
abbrev pub Trails : Side → List Said → List Said → Type 0
Trails side v [] = v ≡ []
Trails side v (x ∷ c) = (v ≡ x ∷ c) ⊎ ((x.side ≡ other side) × Trails side v c)

-- the messages of a side, newest first
abbrev pub spoken : Side → List Said → List Message
spoken side [] = []
spoken side (x ∷ c) = cond (is_side side x.side) (x.message ∷ spoken side c) (spoken side c)
