-- Two ends of a negotiation: what was said, and each end with its transcript and with what it has not taken yet (RFC 8990, section 2.5.5).
use Rattle.std.specs.Prelude.{◌≡◌, ℕ, List, [], ◌∷◌, ◌++◌, Option, Some, None}
use Rattle.grasp_types.specs.declared.objective.Objective.{Objective}
use Rattle.grasp_types.specs.declared.session.Kind.TheVariants.{Negotiation}
use Rattle.grasp_types.specs.declared.message.Verdict.TheVariants.{Decline}
use Rattle.grasp_types.specs.declared.message.Message.{Message}
use Rattle.grasp_types.specs.declared.message.Message.TheVariants.{ReqNeg, End}
use Rattle.grasp_session.specs.declared.answer.SessionRefused.{SessionRefused}
use Rattle.grasp_session.specs.Messages.{Side, Near, Far, other}
use Rattle.grasp_session.specs.Conversation.{Said, says}
use Rattle.grasp_session.specs.Transcript.{Mark, Expired, Closed, Starved, Transcript, opening, Saying, act_of, refusal, message_of, having_said, after_heard, receive, marked}

-- an end without a transcript yet, one that declined without a transcript, or one with a transcript
pub data Stage : Type 0 where
  Absent : Stage
  Refused : Stage
  Present : (transcript : Transcript) → Stage

-- inbox: the messages of the other side that this end has not taken, oldest first. taken: those that it has, newest first
pub record Party : Type 0 where
  pub stage : Stage
  pub inbox : List Message
  pub taken : List Message

-- a conversation with its two ends
pub record Talk : Type 0 where
  pub said : List Said
  pub near : Party
  pub far : Party

abbrev pub quiet : Talk
quiet = record { said = []; near = record { stage = Absent; inbox = []; taken = [] }; far = record { stage = Absent; inbox = []; taken = [] } }

abbrev pub party : Talk → Side → Party
party t Near = t.near
party t Far = t.far

-- the talk with these parties: this side's, and the other's
abbrev pub talk_of : Side → List Said → Party → Party → Talk
talk_of Near said mine theirs = record { said = said; near = mine; far = theirs }
talk_of Far said mine theirs = record { said = said; near = theirs; far = mine }

abbrev pub in_stage : Party → Stage → Party
in_stage p stage = record { stage = stage; inbox = p.inbox; taken = p.taken }

abbrev pub handed : Party → Message → Party
handed p m = record { stage = p.stage; inbox = p.inbox ++ m ∷ []; taken = p.taken }

-- this side says a message, and is in this stage then
abbrev pub spoke : Talk → Side → Message → Stage → Talk
spoke t side m stage = talk_of side (says side m ∷ t.said) (in_stage (party t side) stage) (handed (party t (other side)) m)

-- this party takes the next message, with these left in its inbox, and is in this stage then
abbrev pub having_taken : Party → Message → List Message → Stage → Party
having_taken p m left stage = record { stage = stage; inbox = left; taken = m ∷ p.taken }

abbrev pub took : Talk → Side → Message → List Message → Stage → Talk
took t side m left stage = talk_of side t.said (having_taken (party t side) m left stage) (party t (other side))

abbrev pub stays : Talk → Side → Stage → Talk
stays t side stage = talk_of side t.said (in_stage (party t side) stage) (party t (other side))

-- what ends a session from outside, between ends that keep to the protocol
pub data Cause : Type 0 where
  Expires : (now : ℕ) → Cause
  Closes : Cause
  Starves : Cause

abbrev pub mark_of : Cause → Mark
mark_of (Expires now) = Expired now
mark_of Closes = Closed
mark_of Starves = Starved

-- what an end may do
pub data Move : Type 0 where
  Requests : (now timeout session : ℕ) (objective : Objective) → Move
  OpensFar : (now timeout : ℕ) → Move
  RefusesFar : (reason : Option (List ℕ)) → Move
  Says : (side : Side) (now : ℕ) (saying : Saying) → Move
  Hears : (side : Side) (now : ℕ) → Move
  Marks : (side : Side) (cause : Cause) → Move

-- near requests, once
abbrev pub requests : Talk → ℕ → ℕ → ℕ → Objective → Stage → Talk
requests t now timeout session o Absent = spoke t Near (ReqNeg session o) (Present (opening Negotiation Near timeout now session o))
requests t now timeout session o Refused = t
requests t now timeout session o (Present v) = t

-- far takes the request that comes, and listens
abbrev pub opens_at : Talk → ℕ → ℕ → List Message → Talk
opens_at t now timeout [] = t
opens_at t now timeout (m ∷ left) = by_message m where
  by_message : Message → Talk
  by_message (ReqNeg session o) = took t Far m left (Present (opening Negotiation Far timeout now session o))
  by_message _ = t

abbrev pub opens : Talk → ℕ → ℕ → Stage → Talk
opens t now timeout Absent = opens_at t now timeout t.far.inbox
opens t now timeout Refused = t
opens t now timeout (Present v) = t

-- far takes the request that comes, and declines it without a transcript
abbrev pub refuses_at : Talk → Option (List ℕ) → List Message → Talk
refuses_at t reason [] = t
refuses_at t reason (m ∷ left) = by_message m where
  by_message : Message → Talk
  by_message (ReqNeg session o) = spoke (took t Far m left Refused) Far (End session (Decline reason)) Refused
  by_message _ = t

abbrev pub refuses : Talk → Option (List ℕ) → Stage → Talk
refuses t reason Absent = refuses_at t reason t.far.inbox
refuses t reason Refused = t
refuses t reason (Present v) = t

-- an end says what it may
abbrev pub says_checked : Talk → Side → ℕ → Saying → Transcript → Option SessionRefused → Talk
says_checked t side now s v None = spoke t side (message_of v s) (Present (having_said v now s))
says_checked t side now s v (Some refused) = t

abbrev pub says_at : Talk → Side → ℕ → Saying → Stage → Talk
says_at t side now s Absent = t
says_at t side now s Refused = t
says_at t side now s (Present v) = says_checked t side now s v (refusal v (act_of s))

-- an end takes the next message of the other side. One that refused takes it for nothing
abbrev pub hears_next : Talk → Side → ℕ → Stage → List Message → Talk
hears_next t side now stage [] = t
hears_next t side now Absent (m ∷ left) = t
hears_next t side now Refused (m ∷ left) = took t side m left Refused
hears_next t side now (Present v) (m ∷ left) = took t side m left (Present (after_heard v now m (receive v m)))

abbrev pub marks_at : Talk → Side → Cause → Stage → Talk
marks_at t side cause Absent = t
marks_at t side cause Refused = t
marks_at t side cause (Present v) = stays t side (Present (marked v (mark_of cause)))

abbrev pub moved : Talk → Move → Talk
moved t (Requests now timeout session o) = requests t now timeout session o t.near.stage
moved t (OpensFar now timeout) = opens t now timeout t.far.stage
moved t (RefusesFar reason) = refuses t reason t.far.stage
moved t (Says side now s) = says_at t side now s (party t side).stage
moved t (Hears side now) = hears_next t side now (party t side).stage (party t side).inbox
moved t (Marks side cause) = marks_at t side cause (party t side).stage

-- a run of moves
abbrev pub run : Talk → List Move → Talk
run t [] = t
run t (m ∷ ms) = run (moved t m) ms

-- some list of moves leads to this talk
pub record Reached (t : Talk) : Type 0 where
  pub moves : List Move
  pub ran : t ≡ run quiet moves
