-- A reader as it serves: it reads what floods reported once something came.
use Rattle.std.specs.Prelude.{ℕ, is_some, Bool, true, List}
use Rattle.grasp_agent.specs.Announcing.{ReaderState, first_reader, reader_call, after_keep}
use Rattle.grasp_agent.specs.Replies.{answer_in, asa_in}
use Rattle.grasp_types.specs.declared.reply.Reply.{Reply}
use Rattle.grasp_types.specs.declared.traffic.Input.{Input}
use Rattle.grasp_types.specs.declared.traffic.Input.TheVariants as input

-- the reader, and whether a call is due
pub record ListenerState : Type 0 where
  pub reader : ReaderState
  pub awake : Bool

abbrev pub first_listener : ℕ → List ℕ → ListenerState
first_listener number name = record { reader = first_reader number name; awake = true }

abbrev pub listener_call : ListenerState → Input
listener_call l = input.Api l.reader.asa (reader_call l.reader)

-- after the reply to its call: one that has just registered reads at once
unfoldable pub listener_after : ListenerState → Reply → ListenerState
listener_after l r = record { reader = after_keep l.reader r; awake = is_some (asa_in (answer_in r)) }

abbrev pub listener_woken : ListenerState → ListenerState
listener_woken l = record l { awake = true }
