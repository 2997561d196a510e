-- The negotiations of a network: each of its streams whose first message asks for one is a talk of two ends that keep to the protocol (RFC 8990, section 2.5.5).
use Rattle.std.specs.Prelude.{◌≡◌, reverse}
use Rattle.grasp_model_network.specs.Runs.{IsReached}
use Rattle.grasp_model_network.specs.Setting.{Setting}
use Rattle.grasp_model_network.specs.Streams.{StreamState}
use Rattle.grasp_laws_network.specs.Views.{stage_at}
use Rattle.grasp_model_network.specs.World.{WorldState}
use Rattle.grasp_laws_delivery.specs.Saying.{OfEachStream}
use Rattle.grasp_session.specs.Conversation.{spoken, IsLegalConversation}
use Rattle.grasp_session.specs.Laws.{IsOpened}
use Rattle.grasp_session.specs.Messages.{Side, Near}
use Rattle.grasp_session.specs.Talk.{Talk, party, Reached}

-- what the side that dialled has said on the stream begins with a request for negotiation, or is nothing yet
abbrev pub IsNegotiation : StreamState → Type 0
IsNegotiation t = IsOpened (reverse (spoken Near t.said))

-- P holds of each negotiation of a network
abbrev pub OfNegotiations : WorldState → (StreamState → Type 0) → Type 0
OfNegotiations w P = OfEachStream (λ t. IsNegotiation t → P t) w.streams

-- P holds of each negotiation of each network that turns lead to
abbrev pub OfEachNegotiation : (WorldState → StreamState → Type 0) → Type 0
OfEachNegotiation P = (s : Setting) (w : WorldState) → IsReached s w → OfNegotiations w (P w)

-- some moves of two ends that keep to the protocol lead to what was said on the stream and to how each side stands
pub record IsTalk (w : WorldState) (t : StreamState) : Type 0 where
  pub talk : Talk
  pub reached : Reached talk
  pub said : talk.said ≡ t.said
  pub stages : (side : Side) → (party talk side).stage ≡ stage_at w t side

abbrev pub NegotiationsAreTalks : Type 0
NegotiationsAreTalks = OfEachNegotiation IsTalk

-- the order of the messages is that of a negotiation (RFC 8990, sections 2.5.5, 2.7 and 2.8.12)
abbrev pub IsInOrder : WorldState → StreamState → Type 0
IsInOrder w t = IsLegalConversation t.said

abbrev pub NegotiationsAreInOrder : Type 0
NegotiationsAreInOrder = OfEachNegotiation IsInOrder
