-- What an event without a step changes: the agent of one node, which is told something.
use Rattle.std.specs.Prelude.{◌≡◌, ◌⊎◌, ℕ, List, Some}
use Rattle.grasp_agent.specs.Laws.{IsPossible}
use Rattle.grasp_agent.specs.Replies.{AgentEvent, replied}
use Rattle.grasp_agent.specs.States.{AgentState}
use Rattle.grasp_model_network.specs.Events.{IsFit, after_none}
use Rattle.grasp_model_network.specs.Sending.{seat_with}
use Rattle.grasp_model_network.specs.Setting.{Setting}
use Rattle.grasp_model_network.specs.Telling.{Telling, telling_of, after_telling}
use Rattle.grasp_model_network.specs.World.{Offered, Seat, WorldState, seat_at, with_seat}
use Rattle.grasp_model_network.specs.declared.event.Event.{Event}

-- one node's agent is another one, and so are perhaps the offers
pub record OneAgent (w x : WorldState) : Type 0 where
  pub node : ℕ
  pub seat : Seat
  pub here : seat_at w node ≡ Some seat
  pub agent : AgentState
  pub offers : List Offered
  pub settled : List Offered
  pub after : x ≡ record (with_seat w node (seat_with seat.core agent)) { offers = offers; settled = settled }

-- a reply comes of a step of the node, and isn't told
abbrev pub IsNoReply : AgentEvent → Type 0
IsNoReply (replied r) = ⊥
IsNoReply _ = Unit {0}

-- the event tells an agent something that may happen to it, and this is the network after that
pub record Tells (s : Setting) (w : WorldState) (e : Event) (x : WorldState) : Type 0 where
  pub telling : Telling
  pub is : telling_of s w e ≡ Some telling
  pub seat : Seat
  pub here : seat_at w telling.node ≡ Some seat
  pub possible : IsPossible telling.what
  pub no_reply : IsNoReply telling.what
  pub after : x ≡ after_telling w telling (Some seat)

-- an event without a step changes nothing, or tells an agent something
abbrev pub NoneTells : Type 0
NoneTells = (s : Setting) (w : WorldState) (e : Event) → IsFit s w e → (after_none s w e ≡ w) ⊎ Tells s w e (after_none s w e)
