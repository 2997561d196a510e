-- The first network of doubters: each has made its opening calls. Names and numbers are this project's own.
use Rattle.std.specs.Prelude.{ℕ, true, List, [], ◌∷◌, Option, None, Some, Ok, fold, length, map}
use Rattle.grasp_types.specs.declared.call.Call.{Call}
use Rattle.grasp_types.specs.declared.call.Call.TheVariants as call
use Rattle.grasp_types.specs.declared.reply.ApiAnswer.{ApiAnswer}
use Rattle.grasp_types.specs.declared.reply.ApiAnswer.TheVariants as answer
use Rattle.grasp_types.specs.declared.reply.Reply.TheVariants as reply
use Rattle.grasp_doubter.specs.Questions.{doubt_name, doubter_name}
use Rattle.grasp_doubter.specs.States.{first_doubter}
use Rattle.grasp_model_node.specs.Begin.{begin}
use Rattle.grasp_model_node.specs.Step.{after_call}
use Rattle.grasp_model_network.specs.Events.{after_event}
use Rattle.grasp_model_network.specs.Runs.{first_world}
use Rattle.grasp_model_network.specs.Setting.{Setting, numbers_from}
use Rattle.grasp_model_network.specs.Visits.{Choice, no_choice}
use Rattle.grasp_model_network.specs.World.{Seat, WorldState}
use Rattle.grasp_model_network.specs.declared.event.Event.{Event}
use Rattle.grasp_model_network.specs.declared.event.Event.TheVariants as event
use Rattle.grasp_model_doubts.specs.World.{DoubtState, present_seat}

-- a call, as which agent it is made, and what it is answered
pub record OpeningCall : Type 0 where
  pub asa : ℕ
  pub call : Call
  pub answer : ApiAnswer

-- the opening calls of a doubter: it is agent 2, its objective is registered with the flag F_NEG alone, and no question has come yet
abbrev pub opening_calls : List OpeningCall
opening_calls =
    record { asa = 0; call = call.RegisterAsa doubter_name; answer = answer.Asa 2 }
    ∷ record { asa = 2; call = call.RegisterObjective doubt_name 2; answer = answer.Done }
    ∷ record { asa = 2; call = call.ListenNegotiate doubt_name; answer = answer.NotYet }
    ∷ []

-- the call is an event, behind which nothing is drained
abbrev pub opening_event : ℕ → OpeningCall → Event
opening_event node o = event.Api node o.asa o.call true

-- at a node that stands so it comes out so
abbrev pub opening_choice : Seat → OpeningCall → Choice
opening_choice seat o = record { coming = no_choice.coming; reply = reply.Api o.answer; after = after_call (begin seat.core seat.core.reading) o.asa o.call (Ok o.answer) }

abbrev pub having_called : Setting → ℕ → WorldState → OpeningCall → Option Seat → WorldState
having_called s node w o None = w
having_called s node w o (Some seat) = after_event s w (opening_event node o) (opening_choice seat o)

-- the network once this member's doubter has made the call
unfoldable pub after_opening_call : Setting → ℕ → WorldState → OpeningCall → WorldState
after_opening_call s node w o = having_called s node w o (present_seat w node)

-- the network once this member's doubter has made its opening calls
unfoldable pub after_opening : Setting → WorldState → ℕ → WorldState
after_opening s w node = fold (after_opening_call s node) w opening_calls

-- the first network, in which each member's doubter has made its opening calls, one member after the other, and has seen nothing
unfoldable pub first_doubts : Setting → DoubtState
first_doubts s = record {
  world = fold (after_opening s) (first_world s) (numbers_from 1 (length s.members));
  doubters = map (λ m. first_doubter m.plan.address) s.members;
}
