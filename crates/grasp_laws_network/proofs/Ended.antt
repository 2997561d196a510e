-- An event changes no agent but that of a member's present life.
use Rattle.std.proofs.Common.{◌≡◌, ◌≢◌, ◌⊎◌, inl, inr, refl, sym, ap, ◌∙◌, subst, ℕ, ◌-◌, ◌≤◌, Bool, true, false, length, slice_set, take, Option, Some, None}
use Rattle.std.proofs.lemmas.Option.{none-some, same_Some}
use Rattle.grasp_agent.specs.Replies as agent
use Rattle.grasp_agent.specs.Replies.{AgentEvent, wanted, returned, after_reply}
use Rattle.grasp_agent.specs.States.{AgentState}
use Rattle.grasp_model_node.specs.Begin.{begin}
use Rattle.grasp_model_node.specs.Draining.{closes, after_drain}
use Rattle.grasp_model_node.specs.Node.{NodeState}
use Rattle.grasp_types.specs.Prefix.{AddressBlock as Prefix}
use Rattle.grasp_types.specs.declared.address.Locator.{Locator}
use Rattle.grasp_laws_network.proofs.Here.{numbered_within, present_least, visits_are_here}
use Rattle.grasp_laws_network.proofs.Lists.{numbered_put}
use Rattle.grasp_laws_network.proofs.Lives.{OfEachLife}
use Rattle.grasp_laws_network.proofs.Others.{arrived_keeps, delivered_keeps, told_keeps}
use Rattle.grasp_laws_network.proofs.Sent.{sending_keeps_nodes}
use Rattle.grasp_laws_network.specs.Keeping.{IsHere}
use Rattle.grasp_model_network.specs.EventSteps.{after_agent_call, after_agent, agent_visit, agent_seat, agent_input, after_arrival, after_clock, after_cut, after_delivery, after_piece}
use Rattle.grasp_model_network.specs.Events.{IsFit, visit_of, after_visit, after_none, after_by, after_event, drains, drained_behind}
use Rattle.grasp_model_network.specs.Notes.{noted}
use Rattle.grasp_model_network.specs.Plans.{IsNode}
use Rattle.grasp_model_network.specs.Sending.{seat_with, stepped, drained, drained_at, drained_from, event_drain}
use Rattle.grasp_model_network.specs.Setting.{Setting, numbered}
use Rattle.grasp_model_network.specs.StreamChanges.{arrived, told, reached_side, side_named, delivered}
use Rattle.grasp_model_network.specs.Streams.{stream_numbered}
use Rattle.grasp_model_network.specs.Telling.{want_told, return_told, after_telling, after_told}
use Rattle.grasp_model_network.specs.Visits.{Visit, Choice}
use Rattle.grasp_model_network.specs.World.{Seat, WorldState, present_life, seat_at, with_seat}
use Rattle.grasp_model_network.specs.declared.event.Event.{Event}
use Rattle.grasp_model_network.specs.declared.event.Event.TheVariants as event

-- ---- one seat is put

pub put_life : (P : ℕ → Seat → Type 0) (w x : WorldState) (life : ℕ) (seat : Seat) → 1 ≤ life → x.seats ≡ slice_set w.seats (life - 1) seat → P life seat → OfEachLife P w → OfEachLife P x
put_life P w x life seat least e p each n other found = by_case (numbered_put w.seats life n seat other least (subst (λ seats. numbered seats n ≡ Some other) e found)) where
  by_case : ((n ≡ life) × (seat ≡ other)) ⊎ ((n ≢ life) × (numbered w.seats n ≡ Some other)) → P n other
  by_case (inl h) = subst (λ k. P k other) (sym h.0) (subst (λ (y : Seat). P life y) h.1 p)
  by_case (inr h) = each n other h.1

-- ---- agents

-- a life's agent is the one that it had, or the life is a member's present one
pub data AgentStays (s : Setting) (w : WorldState) (life : ℕ) (a : AgentState) : Type 0 where
  stays : (seat : Seat) → seat_at w life ≡ Some seat → seat.agent ≡ a → AgentStays s w life a
  changes : (node : ℕ) → IsNode (length s.members) node → life ≡ present_life w node → AgentStays s w life a

abbrev pub AgentsStay : Setting → WorldState → WorldState → Type 0
AgentsStay s w x = OfEachLife (λ life seat. AgentStays s w life seat.agent) x

-- an agent's visit is of that life
agent_life : (life : ℕ) (v : Visit) (o : Option Seat) → agent_seat life o ≡ Some v → v.node ≡ life
agent_life life v None is = absurd (none-some v is)
agent_life life v (Some seat) is =
    sym (ap (λ (x : Visit). x.node) (same_Some (record { node = life; seat = seat; now = seat.core.reading; input = agent_input seat.agent }) v is))

module _ (s : Setting) (w : WorldState) where
  same_agents : AgentsStay s w w
  same_agents life seat here = stays seat here refl

  drained_by_agents : (x : WorldState) (node max : ℕ) (o : Option Seat) → seat_at x node ≡ o → AgentsStay s w x → AgentsStay s w (drained_at s x node max o)
  drained_by_agents x node max None here each = each
  drained_by_agents x node max (Some seat) here each = from (begin seat.core seat.core.reading) where
    from : (m : NodeState) → AgentsStay s w (drained_from s x node seat m max)
    from m =
        put_life (λ life y. AgentStays s w life y.agent) x (drained_from s x node seat m max) node (seat_with (after_drain m max) seat.agent) (numbered_within x.seats node seat here).least
        (sending_keeps_nodes s (with_seat x node (seat_with (after_drain m max) seat.agent)) node (take max m.queue) (closes m max)) (each node seat here) each

  drained_agents : (x : WorldState) (node max : ℕ) → AgentsStay s w x → AgentsStay s w (drained s x node max)
  unfolding drained
  drained_agents x node max each = drained_by_agents x node max (seat_at x node) refl each

  behind_agents : (b : Bool) (x : WorldState) (node : ℕ) → AgentsStay s w x → AgentsStay s w (drained_behind b s x node)
  behind_agents true x node each = drained_agents x node event_drain each
  behind_agents false x node each = each

  stepped_agents : (x y : WorldState) (v : Visit) (core : NodeState) (a : AgentState) → 1 ≤ v.node → x.seats ≡ w.seats → y.seats ≡ (stepped x v core a).seats
      → AgentStays s w v.node a → AgentsStay s w y
  unfolding stepped
  stepped_agents x y v core a least e f p =
      put_life (λ life z. AgentStays s w life z.agent) w y v.node (seat_with core a) least (f ∙ ap (λ seats. slice_set seats (v.node - 1) (seat_with core a)) e) p same_agents

  visit_agents : (e : Event) (v : Visit) (c : Choice) → visit_of s w e ≡ Some v → IsFit s w e → IsHere w v → AgentsStay s w (after_visit s w e v c)
  unfolding after_clock after_agent after_agent_call after_delivery after_arrival after_piece after_cut noted agent_visit
  visit_agents e v c is fit here = by_event e is fit where
    least : 1 ≤ v.node
    least = here.member.least

    same : AgentStays s w v.node v.seat.agent
    same = stays v.seat here.stands refl

    by_event : (e : Event) → visit_of s w e ≡ Some v → IsFit s w e → AgentsStay s w (after_visit s w e v c)
    by_event (event.Clock node millis) is fit = stepped_agents w (after_clock w v c) v c.after v.seat.agent least refl refl same
    by_event (event.Want node length longest peer) is fit = same_agents
    by_event (event.Return node prefix peer) is fit = same_agents
    by_event (event.Agent node hold) is fit =
        stepped_agents w (after_agent w v c) v c.after (after_reply v.seat.agent c.reply) least refl refl
        (changes node fit (agent_life (present_life w node) v (seat_at w (present_life w node)) is))
    by_event (event.Api node asa call hold) is fit = stepped_agents w (after_agent_call w v asa call c) v c.after v.seat.agent least refl refl same
    by_event (event.Datagram index hold) is fit = stepped_agents w (after_delivery w v index c) v c.after v.seat.agent least refl refl same
    by_event (event.Arrive stream hold) is fit =
        stepped_agents (arrived w v (s.arrives_as v.node stream) c.reply (stream_numbered w.streams stream)) (after_arrival s w v stream c) v c.after v.seat.agent least
        (arrived_keeps w v (s.arrives_as v.node stream) c.reply (stream_numbered w.streams stream)) refl same
    by_event (event.Bytes stream far count hold) is fit =
        stepped_agents (delivered w count (reached_side w stream (side_named far))) (after_piece w v stream (side_named far) count c) v c.after v.seat.agent least
        (delivered_keeps w count (reached_side w stream (side_named far))) refl same
    by_event (event.Cut stream far hold) is fit =
        stepped_agents (told w (reached_side w stream (side_named far))) (after_cut w v stream (side_named far) c) v c.after v.seat.agent least
        (told_keeps w (reached_side w stream (side_named far))) refl same
    by_event (event.Drain node max) is fit = drained_agents w v.node max same_agents

  -- an agent that is told something is that of a present life
  telling_agents : (node : ℕ) (what : AgentEvent) (o : Option Seat) → IsNode (length s.members) node → seat_at w (present_life w node) ≡ o
      → AgentsStay s w (after_telling w (record { node = present_life w node; what = what }) o)
  telling_agents node what None member here = same_agents
  telling_agents node what (Some seat) member here =
      put_life (λ life z. AgentStays s w life z.agent) w (after_telling w (record { node = present_life w node; what = what }) (Some seat)) (present_life w node)
      (seat_with seat.core (agent.after_event seat.agent what)) (present_least w node) refl (changes node member refl) same_agents

  want_agents : (node short longest : ℕ) (peer : Option Locator) → IsNode (length s.members) node → AgentsStay s w (after_told w (want_told (present_life w node) short longest peer))
  want_agents node short longest None member = same_agents
  want_agents node short longest (Some peer) member = telling_agents node (wanted short longest peer) (seat_at w (present_life w node)) member refl

  return_agents : (node : ℕ) (p : Prefix) (peer : Option Locator) → IsNode (length s.members) node → AgentsStay s w (after_told w (return_told (present_life w node) p peer))
  return_agents node p None member = same_agents
  return_agents node p (Some peer) member = telling_agents node (returned p peer) (seat_at w (present_life w node)) member refl

  none_agents : (e : Event) → IsFit s w e → AgentsStay s w (after_none s w e)
  none_agents (event.Want node short longest peer) fit = want_agents node short longest (numbered s.peers peer) fit.0
  none_agents (event.Return node prefix peer) fit = return_agents node prefix (numbered s.peers peer) fit.0
  none_agents _ fit = same_agents

  by_agents : (e : Event) (c : Choice) (o : Option Visit) → visit_of s w e ≡ o → IsFit s w e → AgentsStay s w (after_by s w e c o)
  by_agents e c None is fit = none_agents e fit
  by_agents e c (Some v) is fit = behind_agents (drains e) (after_visit s w e v c) v.node (visit_agents e v c is fit (visits_are_here s w e v is))

  pub event_agents : (e : Event) (c : Choice) → IsFit s w e → AgentsStay s w (after_event s w e c)
  unfolding after_event
  event_agents e c fit = by_agents e c (visit_of s w e) refl fit
