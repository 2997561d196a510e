-- What an event makes of the agents in a network: none changes but that of the member that it names, where it is a call of the agent, a want or
-- a return.
use Rattle.std.proofs.Common.{◌≡◌, refl, sym, ap, ◌∙◌, ℕ, ◌-◌, ◌≤◌, Bool, true, false, slice_set, take, Option, Some, None}
use Rattle.std.proofs.lemmas.Option.{none-some, same_Some}
use Rattle.grasp_agent.specs.Replies as agent
use Rattle.grasp_agent.specs.Replies.{AgentEvent, wanted, returned, after_reply}
use Rattle.grasp_agent.specs.States.{AgentState}
use Rattle.grasp_model_node.specs.Begin.{begin}
use Rattle.grasp_model_node.specs.Draining.{closes, after_drain}
use Rattle.grasp_model_node.specs.Node.{NodeState}
use Rattle.grasp_types.specs.Prefix.{AddressBlock as Prefix}
use Rattle.grasp_types.specs.declared.address.Locator.{Locator}
use Rattle.grasp_types.specs.declared.reply.Reply.{Reply}
use Rattle.grasp_laws_network.proofs.Ended.{put_life}
use Rattle.grasp_laws_network.proofs.Here.{numbered_within, present_least, visits_are_here}
use Rattle.grasp_laws_network.proofs.Lives.{OfEachLife}
use Rattle.grasp_laws_network.proofs.Others.{arrived_keeps, delivered_keeps, told_keeps}
use Rattle.grasp_laws_network.proofs.Sent.{sending_keeps_nodes}
use Rattle.grasp_laws_network.specs.Keeping.{IsHere}
use Rattle.grasp_model_network.specs.EventSteps.{after_agent_call, after_agent, agent_visit, agent_seat, agent_input, after_arrival, after_clock, after_cut, after_delivery, after_piece}
use Rattle.grasp_model_network.specs.Events.{visit_of, after_visit, after_none, after_by, after_event, drains, drained_behind}
use Rattle.grasp_model_network.specs.Notes.{noted}
use Rattle.grasp_model_network.specs.Sending.{seat_with, stepped, drained, drained_at, drained_from, event_drain}
use Rattle.grasp_model_network.specs.Setting.{Setting, numbered}
use Rattle.grasp_model_network.specs.StreamChanges.{arrived, told, reached_side, side_named, delivered}
use Rattle.grasp_model_network.specs.Streams.{stream_numbered}
use Rattle.grasp_model_network.specs.Telling.{want_told, return_told, after_telling, after_told}
use Rattle.grasp_model_network.specs.Visits.{Visit, Choice}
use Rattle.grasp_model_network.specs.World.{Seat, WorldState, present_life, seat_at, with_seat}
use Rattle.grasp_model_network.specs.declared.event.Event.{Event}
use Rattle.grasp_model_network.specs.declared.event.Event.TheVariants as event

-- the event is a call of this member's agent
abbrev pub Calls : Event → ℕ → Type 0
Calls (event.Agent n hold) node = n ≡ node
Calls _ node = ⊥

-- the event is a want or a return of this member
abbrev pub IsTold : Event → ℕ → Type 0
IsTold (event.Want n short longest peer) node = n ≡ node
IsTold (event.Return n prefix peer) node = n ≡ node
IsTold _ node = ⊥

-- a life's agent is the one that it had; or the life is the present one of the member that the event names, and the agent has taken a reply or was told something
pub data AgentGoes (w : WorldState) (e : Event) (life : ℕ) (a : AgentState) : Type 0 where
  stays : (seat : Seat) → seat_at w life ≡ Some seat → seat.agent ≡ a → AgentGoes w e life a
  replies : (node : ℕ) (seat : Seat) (r : Reply) → Calls e node → life ≡ present_life w node → seat_at w life ≡ Some seat → a ≡ after_reply seat.agent r → AgentGoes w e life a
  is_told : (node : ℕ) → IsTold e node → life ≡ present_life w node → AgentGoes w e life a

abbrev pub AgentsGo : WorldState → Event → WorldState → Type 0
AgentsGo w e x = OfEachLife (λ life seat. AgentGoes w e life seat.agent) x

-- an agent's visit is of that life
agent_life : (life : ℕ) (v : Visit) (o : Option Seat) → agent_seat life o ≡ Some v → v.node ≡ life
agent_life life v None is = absurd (none-some v is)
agent_life life v (Some seat) is =
    sym (ap (λ (x : Visit). x.node) (same_Some (record { node = life; seat = seat; now = seat.core.reading; input = agent_input seat.agent }) v is))

module _ (s : Setting) (w : WorldState) where
  same_agents : (e : Event) → AgentsGo w e w
  same_agents e life seat here = stays seat here refl

  drained_by_agents : (e : Event) (x : WorldState) (node max : ℕ) (o : Option Seat) → seat_at x node ≡ o → AgentsGo w e x → AgentsGo w e (drained_at s x node max o)
  drained_by_agents e x node max None here each = each
  drained_by_agents e x node max (Some seat) here each = from (begin seat.core seat.core.reading) where
    from : (m : NodeState) → AgentsGo w e (drained_from s x node seat m max)
    from m =
        put_life (λ life y. AgentGoes w e life y.agent) x (drained_from s x node seat m max) node (seat_with (after_drain m max) seat.agent) (numbered_within x.seats node seat here).least
        (sending_keeps_nodes s (with_seat x node (seat_with (after_drain m max) seat.agent)) node (take max m.queue) (closes m max)) (each node seat here) each

  drained_agents : (e : Event) (x : WorldState) (node max : ℕ) → AgentsGo w e x → AgentsGo w e (drained s x node max)
  unfolding drained
  drained_agents e x node max each = drained_by_agents e x node max (seat_at x node) refl each

  behind_agents : (e : Event) (b : Bool) (x : WorldState) (node : ℕ) → AgentsGo w e x → AgentsGo w e (drained_behind b s x node)
  behind_agents e true x node each = drained_agents e x node event_drain each
  behind_agents e false x node each = each

  stepped_agents : (e : Event) (x y : WorldState) (v : Visit) (core : NodeState) (a : AgentState) → 1 ≤ v.node → x.seats ≡ w.seats → y.seats ≡ (stepped x v core a).seats
      → AgentGoes w e v.node a → AgentsGo w e y
  unfolding stepped
  stepped_agents e x y v core a least f g p =
      put_life (λ life z. AgentGoes w e life z.agent) w y v.node (seat_with core a) least (g ∙ ap (λ seats. slice_set seats (v.node - 1) (seat_with core a)) f) p (same_agents e)

  visit_agents : (e : Event) (v : Visit) (c : Choice) → visit_of s w e ≡ Some v → IsHere w v → AgentsGo w e (after_visit s w e v c)
  unfolding after_clock after_agent after_agent_call after_delivery after_arrival after_piece after_cut noted agent_visit
  visit_agents e v c is here = by_event e is where
    least : 1 ≤ v.node
    least = here.member.least

    same : (e : Event) → AgentGoes w e v.node v.seat.agent
    same e = stays v.seat here.stands refl

    by_event : (e : Event) → visit_of s w e ≡ Some v → AgentsGo w e (after_visit s w e v c)
    by_event (event.Clock node millis) is = stepped_agents (event.Clock node millis) w (after_clock w v c) v c.after v.seat.agent least refl refl (same (event.Clock node millis))
    by_event (event.Want node short longest peer) is = same_agents (event.Want node short longest peer)
    by_event (event.Return node prefix peer) is = same_agents (event.Return node prefix peer)
    by_event (event.Agent node hold) is =
        stepped_agents (event.Agent node hold) w (after_agent w v c) v c.after (after_reply v.seat.agent c.reply) least refl refl
        (replies node v.seat c.reply refl (agent_life (present_life w node) v (seat_at w (present_life w node)) is) here.stands refl)
    by_event (event.Api node asa call hold) is =
        stepped_agents (event.Api node asa call hold) w (after_agent_call w v asa call c) v c.after v.seat.agent least refl refl (same (event.Api node asa call hold))
    by_event (event.Datagram index hold) is = stepped_agents (event.Datagram index hold) w (after_delivery w v index c) v c.after v.seat.agent least refl refl (same (event.Datagram index hold))
    by_event (event.Arrive stream hold) is =
        stepped_agents (event.Arrive stream hold) (arrived w v (s.arrives_as v.node stream) c.reply (stream_numbered w.streams stream)) (after_arrival s w v stream c) v c.after v.seat.agent least
        (arrived_keeps w v (s.arrives_as v.node stream) c.reply (stream_numbered w.streams stream)) refl (same (event.Arrive stream hold))
    by_event (event.Bytes stream far count hold) is =
        stepped_agents (event.Bytes stream far count hold) (delivered w count (reached_side w stream (side_named far))) (after_piece w v stream (side_named far) count c) v c.after v.seat.agent least
        (delivered_keeps w count (reached_side w stream (side_named far))) refl (same (event.Bytes stream far count hold))
    by_event (event.Cut stream far hold) is =
        stepped_agents (event.Cut stream far hold) (told w (reached_side w stream (side_named far))) (after_cut w v stream (side_named far) c) v c.after v.seat.agent least
        (told_keeps w (reached_side w stream (side_named far))) refl (same (event.Cut stream far hold))
    by_event (event.Drain node max) is = drained_agents (event.Drain node max) w v.node max (same_agents (event.Drain node max))

  -- an agent that is told something is that of the present life of the member that the event names
  telling_agents : (e : Event) (node : ℕ) (what : AgentEvent) (o : Option Seat) → IsTold e node → seat_at w (present_life w node) ≡ o
      → AgentsGo w e (after_telling w (record { node = present_life w node; what = what }) o)
  telling_agents e node what None named here = same_agents e
  telling_agents e node what (Some seat) named here =
      put_life (λ life z. AgentGoes w e life z.agent) w (after_telling w (record { node = present_life w node; what = what }) (Some seat)) (present_life w node)
      (seat_with seat.core (agent.after_event seat.agent what)) (present_least w node) refl (is_told node named refl) (same_agents e)

  want_agents : (e : Event) (node short longest : ℕ) (peer : Option Locator) → IsTold e node → AgentsGo w e (after_told w (want_told (present_life w node) short longest peer))
  want_agents e node short longest None named = same_agents e
  want_agents e node short longest (Some peer) named = telling_agents e node (wanted short longest peer) (seat_at w (present_life w node)) named refl

  return_agents : (e : Event) (node : ℕ) (p : Prefix) (peer : Option Locator) → IsTold e node → AgentsGo w e (after_told w (return_told (present_life w node) p peer))
  return_agents e node p None named = same_agents e
  return_agents e node p (Some peer) named = telling_agents e node (returned p peer) (seat_at w (present_life w node)) named refl

  none_agents : (e : Event) → AgentsGo w e (after_none s w e)
  none_agents (event.Want node short longest peer) = want_agents (event.Want node short longest peer) node short longest (numbered s.peers peer) refl
  none_agents (event.Return node prefix peer) = return_agents (event.Return node prefix peer) node prefix (numbered s.peers peer) refl
  none_agents (event.Clock node millis) = same_agents (event.Clock node millis)
  none_agents (event.Agent node hold) = same_agents (event.Agent node hold)
  none_agents (event.Api node asa call hold) = same_agents (event.Api node asa call hold)
  none_agents (event.Datagram index hold) = same_agents (event.Datagram index hold)
  none_agents (event.Arrive stream hold) = same_agents (event.Arrive stream hold)
  none_agents (event.Bytes stream far count hold) = same_agents (event.Bytes stream far count hold)
  none_agents (event.Cut stream far hold) = same_agents (event.Cut stream far hold)
  none_agents (event.Drain node max) = same_agents (event.Drain node max)

  by_agents : (e : Event) (c : Choice) (o : Option Visit) → visit_of s w e ≡ o → AgentsGo w e (after_by s w e c o)
  by_agents e c None is = none_agents e
  by_agents e c (Some v) is = behind_agents e (drains e) (after_visit s w e v c) v.node (visit_agents e v c is (visits_are_here s w e v is))

  pub agents_go : (e : Event) (c : Choice) → AgentsGo w e (after_event s w e c)
  unfolding after_event
  agents_go e c = by_agents e c (visit_of s w e) refl
