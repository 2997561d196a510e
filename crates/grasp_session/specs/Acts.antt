-- The message of an act, by what the table tells of its session before it is said.
use Rattle.std.specs.Prelude.{◌≡◌, ℕ, ◌-◌, Option, Some}
use Rattle.grasp_cbor.specs.DataItem.{DataItem}
use Rattle.grasp_types.specs.declared.message.Message.{Message}
use Rattle.grasp_types.specs.declared.message.Message.TheVariants.{Negotiate, Wait, End, Invalid}
use Rattle.grasp_types.specs.declared.message.Verdict.{Verdict}
use Rattle.grasp_types.specs.declared.objective.Objective.{Objective}
use Rattle.grasp_types.specs.declared.session.Handle.{Handle}
use Rattle.grasp_session.specs.declared.table.Table.{Table}
use Rattle.grasp_session.specs.Transcript.{SayStep, SayWait, SayEnd, SayInvalid}
use Rattle.grasp_session.specs.Sessions.{Sessions, session_reply, last_reply, say_reply}
use Rattle.grasp_session.specs.Stands.{Stands}

-- a step: the last offer's name and flags, its loop count less one, and a value (RFC 8990, section 2.8.7)
abbrev pub step_after : ℕ → Objective → DataItem → Message
step_after session last value = Negotiate session (record { name = last.name; flags = last.flags; loops = last.loops - 1; value = Some value })

-- the messages of a session of this number
pub record ActsAreMade (z : Sessions) (h : Handle) (session : ℕ) : Type 0 where
  pub step : (last : Objective) (value : DataItem) → last_reply z h ≡ Some last → say_reply z h (SayStep value) ≡ step_after session last value
  pub wait : (millis : ℕ) → say_reply z h (SayWait millis) ≡ Wait session millis
  pub end : (verdict : Verdict) → say_reply z h (SayEnd verdict) ≡ End session verdict
  pub invalid : (detail : Option DataItem) → say_reply z h (SayInvalid detail) ≡ Invalid session detail

-- what `session` and `last` tell is what the message of an act is made of
abbrev pub MessagesAreMade : Type 0
MessagesAreMade = (t : Table) (z : Sessions) (h : Handle) (session : ℕ) → Stands t z → session_reply z h ≡ Some session → ActsAreMade z h session
