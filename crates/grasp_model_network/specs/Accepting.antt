-- Who offers in a negotiation of prefixes, and whether the offer was accepted (RFC 8992, sections 4.1 and 4.2).
use Rattle.std.specs.Prelude.{◌&&◌, Bool, true, false, List, Option, is_some}
use Rattle.std.specs.List.{list_any}
use Rattle.grasp_agent.specs.Values.{returned_in}
use Rattle.grasp_cbor.specs.DataItem.{DataItem}
use Rattle.grasp_session.specs.Conversation.{Said, requested}
use Rattle.grasp_session.specs.Messages.{Side, Near, Far, other, is_side, is_acceptance}
use Rattle.grasp_model_network.specs.Streams.{StreamState}

-- a request with this value gives a prefix back
abbrev pub is_return : Option DataItem → Bool
is_return value = is_some (returned_in value)

-- who asks for a prefix is offered one, and who gives one back offers it
abbrev pub offering_by : Bool → Side
offering_by true = Near
offering_by false = Far

abbrev pub offering_side : StreamState → Side
offering_side t = offering_by (is_return (requested t.said).value)

abbrev pub taking_side : StreamState → Side
taking_side t = other (offering_side t)

-- the side has said an acceptance, whether it has arrived or not
abbrev pub has_accepted : Side → List Said → Bool
has_accepted side said = list_any (λ x. is_side side x.side && is_acceptance x.message) said

-- the taking side has accepted
abbrev pub is_accepted : StreamState → Bool
is_accepted t = has_accepted (taking_side t) t.said
