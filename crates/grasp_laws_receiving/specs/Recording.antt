-- What is written down of a session: what is kept and what is said, each with the clock reading at which it was, and what ended it from outside.
use Rattle.std.specs.Prelude.{◌≡◌, ◌-◌, ℕ, true, false, [], ◌∷◌, Option, None, Some}
use Rattle.grasp_cbor.specs.DataItem.{DataItem}
use Rattle.grasp_session.specs.Messages.{Near, Far}
use Rattle.grasp_session.specs.Transcript.{Transcript, Mark, SayStep, SayWait, SayEnd, SayInvalid, opening, having_said, with_sent, with_kept, with_mark, session_of, request_of, last_offer}
use Rattle.grasp_types.specs.declared.message.Message.{Message}
use Rattle.grasp_types.specs.declared.message.Message.TheVariants.{ReqNeg, ReqSyn, Negotiate, Wait, End, Invalid}
use Rattle.grasp_types.specs.declared.message.Verdict.{Verdict}
use Rattle.grasp_types.specs.declared.objective.Objective.{Objective}
use Rattle.grasp_types.specs.declared.session.Kind.TheVariants.{Negotiation, Synchronization}

-- the message that this end sent is the newest entry, with this reading, and nothing else has changed
abbrev pub and_sent : Transcript → ℕ → Message → Transcript
and_sent v now m = record v { entries = record { sent = true; message = m; at = now } ∷ v.entries }

-- so is the message that it kept
abbrev pub and_kept : Transcript → ℕ → Message → Transcript
and_kept v now m = record v { entries = record { sent = false; message = m; at = now } ∷ v.entries }

-- what is kept of what came
abbrev pub KeptIsRecorded : Type 0
KeptIsRecorded = (v : Transcript) (now : ℕ) (m : Message) → with_kept v now m ≡ and_kept v now m

-- what is said, with the session's number: a step is of the request's name and flags, with the last loop count less one
pub record SaidIsRecorded : Type 0 where
  pub message : (v : Transcript) (now : ℕ) (m : Message) → with_sent v now m ≡ and_sent v now m
  pub step : (v : Transcript) (now : ℕ) (value : DataItem) → having_said v now (SayStep value)
      ≡ and_sent v now (Negotiate (session_of v) (record { name = (request_of v).name; flags = (request_of v).flags; loops = (last_offer v).loops - 1; value = Some value }))
  pub wait : (v : Transcript) (now millis : ℕ) → having_said v now (SayWait millis) ≡ and_sent v now (Wait (session_of v) millis)
  pub end : (v : Transcript) (now : ℕ) (verdict : Verdict) → having_said v now (SayEnd verdict) ≡ and_sent v now (End (session_of v) verdict)
  pub invalid : (v : Transcript) (now : ℕ) (detail : Option DataItem) → having_said v now (SayInvalid detail) ≡ and_sent v now (Invalid (session_of v) detail)

-- the first transcript of each end: the request, which the requester sent and the listener kept, alone
pub record RequestsAreRecorded : Type 0 where
  pub asks : (timeout now session : ℕ) (o : Objective) → opening Negotiation Near timeout now session o
      ≡ record { role = Near; kind = Negotiation; timeout = timeout; entries = record { sent = true; message = ReqNeg session o; at = now } ∷ []; mark = None }
  pub synchronizes : (timeout now session : ℕ) (o : Objective) → opening Synchronization Near timeout now session o
      ≡ record { role = Near; kind = Synchronization; timeout = timeout; entries = record { sent = true; message = ReqSyn session o; at = now } ∷ []; mark = None }
  pub listens : (timeout now session : ℕ) (o : Objective) → opening Negotiation Far timeout now session o
      ≡ record { role = Far; kind = Negotiation; timeout = timeout; entries = record { sent = false; message = ReqNeg session o; at = now } ∷ []; mark = None }

-- what ended it from outside
abbrev pub MarksAreRecorded : Type 0
MarksAreRecorded = (v : Transcript) (mark : Mark) → with_mark v mark ≡ record v { mark = Some mark }

pub record TranscriptsRecord : Type 0 where
  pub kept : KeptIsRecorded
  pub said : SaidIsRecorded
  pub requests : RequestsAreRecorded
  pub marks : MarksAreRecorded
