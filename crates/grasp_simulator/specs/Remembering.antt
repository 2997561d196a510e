-- What the code remembers of offers and acceptances: which of them an event makes, and how it stands for those of a network.
use Rattle.std.specs.Prelude.{◌≡◌, ◌≢◌, ℕ, ◌==◌, ◌&&◌, ◌%◌, if◌then◌else◌, Bool, true, List, [], ◌∷◌, ◌++◌, map, Option, None, Some, option_map, option_to_list, slice_get, Contains}
use Rattle.std.specs.List.{list_any}
use Rattle.grasp_agent.specs.Replies.{after_reply, answer_in, started_in}
use Rattle.grasp_agent.specs.States.{AgentState, offered_by, unsent_of}
use Rattle.grasp_laws_node_stories.specs.Acceptances.{acceptances_of}
use Rattle.grasp_model_network.specs.Accepting.{has_accepted, offering_side}
use Rattle.grasp_model_network.specs.EventSteps.{agent_visit, call_visit}
use Rattle.grasp_model_network.specs.Offers.{JustOffered, is_same_prefix, just_offered}
use Rattle.grasp_model_network.specs.Streams.{StreamEnd, StreamState, end_at}
use Rattle.grasp_model_network.specs.Visits.{Choice, Visit}
use Rattle.grasp_model_network.specs.World.{Offered, Seat, WorldState, end_of, member_of, present_life, seat_at}
use Rattle.grasp_model_network.specs.declared.event.Event.{Event}
use Rattle.grasp_model_network.specs.declared.event.Event.TheVariants as event
use Rattle.grasp_model_node.specs.Node.{NodeState}
use Rattle.grasp_pool.specs.Holdings.{IsListed}
use Rattle.grasp_session.specs.Messages.{Near}
use Rattle.grasp_types.specs.Prefix.{AddressBlock as Prefix}
use Rattle.grasp_types.specs.declared.call.Call.{Call}
use Rattle.grasp_types.specs.declared.call.Call.TheVariants as call
use Rattle.grasp_types.specs.declared.reply.Reply.{Reply}
use Rattle.grasp_types.specs.declared.session.Handle.{Handle}
use Rattle.grasp_simulator.specs.Marking.{WasDialled}
use Rattle.grasp_simulator.specs.Seats.{begun_on}
use Rattle.grasp_simulator.specs.declared.notes.Begun.{Begun}
use Rattle.grasp_simulator.specs.declared.notes.Notes.{Notes}
use Rattle.grasp_simulator.specs.declared.notes.OfferNote.{OfferNote}
use Rattle.grasp_simulator.specs.declared.notes.Offering.{Offering}
use Rattle.grasp_simulator.specs.declared.seat.BegunOn.{BegunOn}
use Rattle.grasp_simulator.specs.declared.stream.LifeEnd.{LifeEnd}

-- ---- what an agent has just begun to offer

-- Inside: what the agent is to offer
abbrev pub offering_of : AgentState → Offering
offering_of a = record { act = offered_by a.act; unsent = unsent_of a.back }

-- Inside: the session that is asked how it stands
abbrev pub polled_in : Call → Option Handle
polled_in (call.Poll h) = Some h
polled_in _ = None

-- Inside: the session that the reply began
abbrev pub started_by : Reply → Option Handle
started_by r = started_in (answer_in r)

abbrev pub begun_with : Prefix → Option Handle → Option Begun
begun_with p None = None
begun_with p (Some h) = Some (record { prefix = p; handle = h })

-- Inside: a return that was to be requested and isn't any more began where its request was answered so
abbrev pub handed_in : Option Prefix → Option Prefix → Reply → Option Begun
handed_in (Some p) None r = begun_with p (started_by r)
handed_in (Some p) (Some q) r = None
handed_in None after r = None

-- Inside: what the agent has just begun to offer by this call, which was answered so: an act that wasn't there before is one in the session
-- that was polled
abbrev pub begun_in : Offering → Offering → Call → Reply → Option Begun
begun_in before after c r = by_act before.act after.act where
  by_act : Option Prefix → Option Prefix → Option Begun
  by_act None (Some p) = begun_with p (polled_in c)
  by_act _ _ = handed_in before.unsent after.unsent r

abbrev pub begun_of : JustOffered → Begun
begun_of j = record { prefix = j.prefix; handle = j.handle }

-- ---- what is noted

-- an end as the code keeps it
abbrev pub end_in : ℕ → ℕ → LifeEnd
end_in life number = record { life = life; number = number }

-- Inside: the note of what a node has just begun to offer in a life
abbrev pub note_with : ℕ → ℕ → BegunOn → OfferNote
note_with node life b = record { node = node; prefix = b.prefix; life = life; stream = b.stream }

-- Inside: by the sessions of the node then
abbrev pub note_of : ℕ → ℕ → NodeState → JustOffered → OfferNote
note_of node life n j = note_with node life (begun_on n j)

abbrev pub notes_by : ℕ → Choice → Option Visit → List OfferNote
notes_by node c None = []
notes_by node c (Some v) = option_to_list (option_map (note_of node v.node c.after) (just_offered v.seat.agent (after_reply v.seat.agent c.reply)))

abbrev pub accepted_by : Choice → Option Visit → List LifeEnd
accepted_by c None = []
accepted_by c (Some v) = map (end_in v.node) (acceptances_of v.seat.core v.input c.reply)

-- the notes once the event came out so: what a node's agent has just begun to offer is noted
abbrev pub offers_noted : List OfferNote → WorldState → Event → Choice → List OfferNote
offers_noted notes w (event.Agent node hold) c = notes ++ notes_by node c (agent_visit w (present_life w node))
offers_noted notes w _ c = notes

-- and so are the ends at which a call of the event has accepted
abbrev pub accepted_noted : List LifeEnd → WorldState → Event → Choice → List LifeEnd
accepted_noted ends w (event.Agent node hold) c = ends ++ accepted_by c (agent_visit w (present_life w node))
accepted_noted ends w (event.Api node asa call hold) c = ends ++ accepted_by c (call_visit w (present_life w node) asa call)
accepted_noted ends w _ c = ends

-- the code has noted what the event tells
pub record HasNoted (before after : Notes) (w : WorldState) (e : Event) (c : Choice) : Type 0 where
  pub offers : after.offers.items ≡ offers_noted before.offers.items w e c
  pub accepted : after.accepted ≡ accepted_noted before.accepted w e c

-- ---- what is found

abbrev pub is_note_of : ℕ → Prefix → OfferNote → Bool
is_note_of node p n = n.node == node && is_same_prefix p n.prefix

-- the last of these notes that the node has of the prefix, and what was found before where there is none
unfoldable pub last_note : ℕ → Prefix → List OfferNote → Option OfferNote → Option OfferNote
last_note node p [] found = found
last_note node p (n ∷ ns) found = last_note node p ns (if is_note_of node p n then Some n else found)

-- the end is among these
abbrev pub is_among : StreamEnd → List LifeEnd → Bool
is_among e ends = list_any (λ (x : LifeEnd). x.life == e.node && x.number == e.number) ends

-- ---- how it stands for a network

-- the note has the number that the stream of this place has in the life that offered, at the offering side
pub record TellsStream (w : WorldState) (note : OfferNote) (o : Offered) (place : ℕ) : Type 0 where
  pub life : note.life ≡ o.node
  pub talk : StreamState
  pub stands : slice_get w.streams place ≡ Some talk
  pub number : ℕ
  pub stream_is : note.stream ≡ Some number
  pub end_is : end_at talk (offering_side talk) ≡ Some (end_of o.node number)

-- the last note of the offer's member and prefix tells its stream
pub record IsNoted (notes : List OfferNote) (w : WorldState) (o : Offered) (place : ℕ) : Type 0 where
  pub note : OfferNote
  pub last : last_note (member_of w o.node) o.prefix notes None ≡ Some note
  pub tells : TellsStream w note o place

-- the prefix is reserved or in doubt, and isn't that of a return that wasn't requested
abbrev pub WasOffered : AgentState → Prefix → Type 0
WasOffered a p = IsListed a.pool p × (unsent_of a.back ≢ Some p)

-- an offer of this prefix by this member is listed for a stream
pub record IsListedBy (w : WorldState) (node : ℕ) (p : Prefix) : Type 0 where
  pub offer : Offered
  pub listed : Contains w.offers offer
  pub member : member_of w offer.node ≡ node
  pub prefix : offer.prefix ≡ p
  pub place : ℕ
  pub on : offer.talk ≡ Some place

-- what the code remembers of offers stands for those of a network: each that is listed for a stream is noted with it, and what a present
-- life has offered or in doubt, and of which its node has a note, is listed for one
pub record OffersStand (notes : List OfferNote) (w : WorldState) : Type 0 where
  pub noted : (o : Offered) (place : ℕ) → Contains w.offers o → o.talk ≡ Some place → IsNoted notes w o place
  pub listed : (node : ℕ) (seat : Seat) (p : Prefix) (note : OfferNote) → member_of w (present_life w node) ≡ node → seat_at w (present_life w node) ≡ Some seat
      → WasOffered seat.agent p → last_note node p notes None ≡ Some note → IsListedBy w node p

-- and of acceptances: the side that dialled has accepted exactly where its end is remembered, and from each end that is so, of the numbers that are
-- dialled, a stream was dialled
pub record AcceptedStand (ends : List LifeEnd) (ts : List StreamState) : Type 0 where
  pub near : (place : ℕ) (t : StreamState) → slice_get ts place ≡ Some t → has_accepted Near t.said ≡ is_among t.near ends
  pub known : (e : StreamEnd) → e.number % 2 ≡ 0 → is_among e ends ≡ true → WasDialled ts e

pub record Remembers (notes : Notes) (w : WorldState) : Type 0 where
  pub offers : OffersStand notes.offers.items w
  pub accepted : AcceptedStand notes.accepted w.streams
