-- An event without a step: what it tells the agent of a node, and the network after it (RFC 8992, sections 4.1 and 4.2).
use Rattle.std.specs.Prelude.{ℕ, List, Option, None, Some, Result, Ok, Err}
use Rattle.grasp_agent.specs.Replies.{AgentEvent, wanted, returned, replied, return_reply, after_event}
use Rattle.grasp_agent.specs.States.{AgentState}
use Rattle.grasp_agent.specs.declared.back.ReturnFault.{ReturnFault}
use Rattle.grasp_types.specs.Prefix.{AddressBlock as Prefix}
use Rattle.grasp_types.specs.declared.address.Locator.{Locator}
use Rattle.grasp_model_network.specs.Offers.{put_offer}
use Rattle.grasp_model_network.specs.Sending.{seat_with}
use Rattle.grasp_model_network.specs.Setting.{Setting, numbered}
use Rattle.grasp_model_network.specs.World.{Offered, Seat, WorldState, present_life, seat_at, with_seat}
use Rattle.grasp_model_network.specs.declared.event.Event.{Event}
use Rattle.grasp_model_network.specs.declared.event.Event.TheVariants as event

-- what an event without a step tells the agent of a node in this life
pub record Telling : Type 0 where
  pub node : ℕ
  pub what : AgentEvent

abbrev pub want_told : ℕ → ℕ → ℕ → Option Locator → Option Telling
want_told node length longest None = None
want_told node length longest (Some peer) = Some (record { node = node; what = wanted length longest peer })

abbrev pub return_told : ℕ → Prefix → Option Locator → Option Telling
return_told node p None = None
return_told node p (Some peer) = Some (record { node = node; what = returned p peer })

-- a want and a return tell the agent of a member's present life something, where there is a peer of that number
abbrev pub telling_of : Setting → WorldState → Event → Option Telling
telling_of s w (event.Want node length longest peer) = want_told (present_life w node) length longest (numbered s.peers peer)
telling_of s w (event.Return node prefix peer) = return_told (present_life w node) prefix (numbered s.peers peer)
telling_of s w _ = None

-- a return that the agent took is an offer without a stream until it is requested
abbrev pub with_return : List Offered → ℕ → Prefix → Result (Unit {0}) ReturnFault → List Offered
with_return offers node p (Ok done) = put_offer offers node p None
with_return offers node p (Err fault) = offers

-- the offers once this node's agent is told this
abbrev pub offers_told : List Offered → ℕ → AgentState → AgentEvent → List Offered
offers_told offers node agent (wanted length longest peer) = offers
offers_told offers node agent (returned p peer) = with_return offers node p (return_reply agent p)
offers_told offers node agent (replied r) = offers

-- the agent takes what it is told, where its node is there
abbrev pub after_telling : WorldState → Telling → Option Seat → WorldState
after_telling w t None = w
after_telling w t (Some seat) =
    record (with_seat w t.node (seat_with seat.core (after_event seat.agent t.what))) { offers = offers_told w.offers t.node seat.agent t.what }

abbrev pub after_told : WorldState → Option Telling → WorldState
after_told w None = w
after_told w (Some t) = after_telling w t (seat_at w t.node)
