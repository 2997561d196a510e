-- What each step of a node and its agent keeps, and is so where a life begins and ends, is so of each node and agent of a network that turns lead to.
use Rattle.std.proofs.Common.{◌≡◌, refl, sym, ap, ◌∙◌, subst, ℕ, ◌-◌, ◌≤◌, ◌==◌, Bool, true, false, ◌⊎◌, inl, inr, cond, [], map, slice_get, slice_set, take, Option, Some, None, Contains}
use Rattle.std.proofs.lemmas.Option.{none-some, same_Some}
use Rattle.grasp_agent.specs.Laws.{IsPossible}
use Rattle.grasp_agent.specs.Replies as agent
use Rattle.grasp_agent.specs.Replies.{AgentEvent, after_reply, after_settling}
use Rattle.grasp_agent.specs.Reopening.{retired}
use Rattle.grasp_agent.specs.States.{AgentState}
use Rattle.grasp_model_node.specs.Begin.{begin}
use Rattle.grasp_model_node.specs.Draining.{closes, drained, after_drain}
use Rattle.grasp_model_node.specs.Node.{NodeState}
use Rattle.grasp_model_node.specs.Queue.{encoding}
use Rattle.grasp_model_node.specs.Step.{Coming, NodeStep}
use Rattle.grasp_model_node.specs.declared.plan.NodePlan.{NodePlan}
use Rattle.grasp_pool.proofs.Opening.{image_opens, opened_pool, reopened_pool}
use Rattle.grasp_pool.specs.Answers.{IsReopened}
use Rattle.grasp_pool.specs.Functions.{pool_of, pool_of_image}
use Rattle.grasp_pool.specs.Holdings.{Holding}
use Rattle.grasp_pool.specs.Pools.{IsPool}
use Rattle.grasp_pool.specs.declared.image.PoolImage.{PoolImage}
use Rattle.grasp_session.specs.Messages.{other}
use Rattle.grasp_types.specs.Prefix.{AddressBlock as Prefix}
use Rattle.grasp_types.specs.declared.reply.Reply.{Reply}
use Rattle.grasp_types.specs.declared.reply.Reply.TheVariants as reply
use Rattle.grasp_types.specs.declared.traffic.Input.{Input}
use Rattle.grasp_types.specs.declared.traffic.Input.TheVariants as input
use Rattle.grasp_laws_network.proofs.EachNode.{IsMade, drain_steps, is_made}
use Rattle.grasp_laws_network.proofs.Ended.{put_life}
use Rattle.grasp_laws_network.proofs.Here.{visits_are_here}
use Rattle.grasp_laws_network.proofs.Others.{arrived_keeps, delivered_keeps, told_keeps}
use Rattle.grasp_laws_network.proofs.Reached.{reached_keeps}
use Rattle.grasp_laws_network.proofs.Restarted.{Restarting, restarting_is, restart_seats}
use Rattle.grasp_laws_network.proofs.Sent.{sending_keeps_nodes}
use Rattle.grasp_laws_network.proofs.Settled.{Settling, settling_is, settle_lives}
use Rattle.grasp_laws_network.proofs.Telling.{one_agent, one_least, none_tells}
use Rattle.grasp_laws_network.specs.Telling.{IsNoReply, Tells}
use Rattle.grasp_model_network.proofs.Facts.{numbered_all}
use Rattle.grasp_model_network.specs.EventSteps.{after_agent_call, after_agent, agent_visit, agent_seat, agent_input, after_arrival, clock_seat, after_clock, cut_visit, cut_at, after_cut, datagram_visit, datagram_at, after_delivery, piece_visit, piece_at, after_piece}
use Rattle.grasp_model_network.specs.StreamChanges.{arrived, told, Reached, reached_side, side_named, delivered}
use Rattle.grasp_model_network.specs.Events.{visit_of, after_visit, after_none, after_by, after_event, drains, drained_behind, IsFit, Occurs}
use Rattle.grasp_laws_network.specs.Keeping.{IsHere}
use Rattle.grasp_model_network.specs.GoodSetting.{IsGoodMember, IsGoodSetting}
use Rattle.grasp_model_network.specs.Notes.{noted}
use Rattle.grasp_model_network.specs.Runs.{IsReached, first_world}
use Rattle.grasp_model_network.specs.Openings.{first_seat, opened_seat}
use Rattle.grasp_model_network.specs.Restarting.{MayRestart, after_restart}
use Rattle.grasp_model_network.specs.Sending as network
use Rattle.grasp_model_network.specs.Sending.{seat_with, stepped, drained_at, drained_from, event_drain}
use Rattle.grasp_model_network.specs.Setting.{Member, Setting, numbered}
use Rattle.grasp_model_network.specs.Settling.{IsDead, after_settle}
use Rattle.grasp_model_network.specs.Streams.{next_bytes, stream_numbered}
use Rattle.grasp_model_network.specs.Visits.{Visit, Choice, MayCome, no_choice}
use Rattle.grasp_model_network.specs.World.{Seat, SentDatagram, WorldState, present_life, seat_at, with_seat}
use Rattle.grasp_model_network.specs.declared.event.Event.{Event}
use Rattle.grasp_model_network.specs.declared.event.Event.TheVariants as event
use Rattle.grasp_laws_delivery.proofs.Inputs.{Arrives, arrives, visit_input}
use Rattle.grasp_laws_agents.specs.Serving.{OfEachSeat}
use Rattle.grasp_laws_agents.specs.Staying.{IsOthers}

-- ---- inputs

abbrev input_in : Visit → Input
input_in v = v.input

abbrev seat_in : Visit → Seat
seat_in v = v.seat

clock_others : (node millis : ℕ) (v : Visit) (o : Option Seat) → clock_seat node millis o ≡ Some v → IsOthers v.input
clock_others node millis v None is = absurd (none-some v is)
clock_others node millis v (Some seat) is = subst IsOthers (ap input_in (same_Some (record { node = node; seat = seat; now = millis; input = input.Drain 0 }) v is)) tt

datagram_others : (w : WorldState) (v : Visit) (o : Option SentDatagram) → datagram_at w o ≡ Some v → IsOthers v.input
datagram_others w v None is = absurd (none-some v is)
datagram_others w v (Some d) is =
    let life : ℕ = present_life w d.route.receiver in
    subst IsOthers (visit_input life (input.Datagram d.route.link d.route.from (encoding d.message)) v (seat_at w life) is) tt

piece_others : (w : WorldState) (far : Bool) (count : ℕ) (v : Visit) (o : Option Reached) → piece_at w (side_named far) count o ≡ Some v → IsOthers v.input
piece_others w far count v None is = absurd (none-some v is)
piece_others w far count v (Some x) is = subst IsOthers (visit_input x.at.node (input.Bytes x.at.number (next_bytes x.talk (other (side_named far)) count)) v (seat_at w x.at.node) is) tt

cut_others : (w : WorldState) (v : Visit) (o : Option Reached) → cut_at w o ≡ Some v → IsOthers v.input
cut_others w v None is = absurd (none-some v is)
cut_others w v (Some x) is = subst IsOthers (visit_input x.at.node (input.Closed x.at.number) v (seat_at w x.at.node) is) tt

-- the agent's own call, at its node
own_call : (node : ℕ) (v : Visit) (o : Option Seat) → agent_seat node o ≡ Some v → agent_input v.seat.agent ≡ v.input
own_call node v None is = absurd (none-some v is)
own_call node v (Some seat) is =
    let same : record { node = node; seat = seat; now = seat.core.reading; input = agent_input seat.agent } ≡ v = same_Some (record { node = node; seat = seat; now = seat.core.reading; input = agent_input seat.agent }) v is in
    sym (ap (λ (x : Seat). agent_input x.agent) (ap seat_in same)) ∙ ap input_in same

-- ---- what is kept

-- each step of the node keeps it, where the input isn't a call of agent 1; so does each call of the agent, which takes the reply; so does
-- what the agent is told, a settling, and the end of its life; and it is so of each life that begins with a pool of which nothing is reserved
pub record Keeps (P : NodeState → AgentState → Type 0) : Type 0 where
  pub others : (n after : NodeState) (a : AgentState) (now : ℕ) (i : Input) (x : Coming) (r : Reply) → P n a → IsOthers i → NodeStep n now i x r after → P after a
  pub own : (n after : NodeState) (a : AgentState) (now : ℕ) (x : Coming) (r : Reply) → P n a → NodeStep n now (agent_input a) x r after → P after (after_reply a r)
  pub told : (n : NodeState) (a : AgentState) (e : AgentEvent) → IsPossible e → IsNoReply e → P n a → P n (agent.after_event a e)
  pub settles : (n : NodeState) (a : AgentState) (p : Prefix) → Contains a.pool.doubtful p → P n a → P n (after_settling a p)
  pub retires : (n : NodeState) (a : AgentState) → P n a → P n (retired a)
  pub opens : (plan : NodePlan) (h : Holding) → IsPool h → h.reserved ≡ [] → P (opened_seat plan h).core (opened_seat plan h).agent

-- P holds of a seat
abbrev AtSeat : (NodeState → AgentState → Type 0) → ℕ → Seat → Type 0
AtSeat P life seat = P seat.core seat.agent

-- ---- a drain

module _ (P : NodeState → AgentState → Type 0) (keep : Keeps P) (s : Setting) where
  drained_by : (w : WorldState) (node max : ℕ) (o : Option Seat) → 1 ≤ node → seat_at w node ≡ o → OfEachSeat P w → OfEachSeat P (drained_at s w node max o)
  drained_by w node max None least here each = each
  drained_by w node max (Some seat) least here each =
      from (begin seat.core seat.core.reading)
      (keep.others seat.core (after_drain (begin seat.core seat.core.reading) max) seat.agent seat.core.reading (input.Drain max) no_choice.coming
      (reply.Outputs (drained (begin seat.core seat.core.reading) max)) (each node seat here) tt (drain_steps seat.core seat.core.reading max no_choice.coming))
    where
      from : (m : NodeState) → P (after_drain m max) seat.agent → OfEachSeat P (drained_from s w node seat m max)
      from m p =
          put_life (AtSeat P) w (drained_from s w node seat m max) node (seat_with (after_drain m max) seat.agent) least
          (sending_keeps_nodes s (with_seat w node (seat_with (after_drain m max) seat.agent)) node (take max m.queue) (closes m max)) p each

  drained_each : (w : WorldState) (node max : ℕ) → 1 ≤ node → OfEachSeat P w → OfEachSeat P (network.drained s w node max)
  unfolding network.drained
  drained_each w node max least each = drained_by w node max (seat_at w node) least refl each

  behind_each : (b : Bool) (w : WorldState) (node : ℕ) → 1 ≤ node → OfEachSeat P w → OfEachSeat P (drained_behind b s w node)
  behind_each true w node least each = drained_each w node event_drain least each
  behind_each false w node least each = each

  -- ---- a step

  stepped_each : (w x y : WorldState) (v : Visit) (core : NodeState) (agent : AgentState) → 1 ≤ v.node → x.seats ≡ w.seats → y.seats ≡ (stepped x v core agent).seats → P core agent → OfEachSeat P w
      → OfEachSeat P y
  unfolding stepped
  stepped_each w x y v core agent least e f p each = put_life (AtSeat P) w y v.node (seat_with core agent) least (f ∙ ap (λ seats. slice_set seats (v.node - 1) (seat_with core agent)) e) p each

  visit_each : (w : WorldState) (e : Event) (v : Visit) (c : Choice) → visit_of s w e ≡ Some v → IsFit s w e → IsHere w v → NodeStep v.seat.core v.now v.input c.coming c.reply c.after → OfEachSeat P w
      → OfEachSeat P (after_visit s w e v c)
  unfolding after_clock after_agent after_agent_call after_delivery after_arrival after_piece after_cut noted agent_visit datagram_visit piece_visit cut_visit
  visit_each w e v c is fit here step each = by_event e is fit where
    own : P v.seat.core v.seat.agent
    own = each v.node v.seat here.stands

    stays : IsOthers v.input → P c.after v.seat.agent
    stays o = keep.others v.seat.core c.after v.seat.agent v.now v.input c.coming c.reply own o step

    by_event : (e : Event) → visit_of s w e ≡ Some v → IsFit s w e → OfEachSeat P (after_visit s w e v c)
    by_event (event.Clock node millis) is fit = stepped_each w w (after_clock w v c) v c.after v.seat.agent here.member.least refl refl (stays (clock_others (present_life w node) millis v (seat_at w (present_life w node)) is)) each
    by_event (event.Want node wanted longest peer) is fit = each
    by_event (event.Return node prefix peer) is fit = each
    by_event (event.Agent node hold) is fit =
        stepped_each w w (after_agent w v c) v c.after (after_reply v.seat.agent c.reply) here.member.least refl refl
        (keep.own v.seat.core c.after v.seat.agent v.now c.coming c.reply own (subst (λ i. NodeStep v.seat.core v.now i c.coming c.reply c.after) (sym (own_call (present_life w node) v (seat_at w (present_life w node)) is)) step)) each
    by_event (event.Api node asa call hold) is fit =
        stepped_each w w (after_agent_call w v asa call c) v c.after v.seat.agent here.member.least refl refl (stays (subst IsOthers (visit_input (present_life w node) (input.Api asa call) v (seat_at w (present_life w node)) is) fit.1)) each
    by_event (event.Datagram index hold) is fit =
        stepped_each w w (after_delivery w v index c) v c.after v.seat.agent here.member.least refl refl (stays (datagram_others w v (numbered w.datagrams index) is)) each
    by_event (event.Arrive stream hold) is fit =
        let a : Arrives s w stream v = arrives s w stream hold v is in
        stepped_each w (arrived w v (s.arrives_as v.node stream) c.reply (stream_numbered w.streams stream)) (after_arrival s w v stream c) v c.after v.seat.agent here.member.least
        (arrived_keeps w v (s.arrives_as v.node stream) c.reply (stream_numbered w.streams stream)) refl (stays (subst IsOthers (sym a.input_is) tt)) each
    by_event (event.Bytes stream far count hold) is fit =
        stepped_each w (delivered w count (reached_side w stream (side_named far))) (after_piece w v stream (side_named far) count c) v c.after v.seat.agent here.member.least
        (delivered_keeps w count (reached_side w stream (side_named far))) refl (stays (piece_others w far count v (reached_side w stream (side_named far)) is)) each
    by_event (event.Cut stream far hold) is fit =
        stepped_each w (told w (reached_side w stream (side_named far))) (after_cut w v stream (side_named far) c) v c.after v.seat.agent here.member.least
        (told_keeps w (reached_side w stream (side_named far))) refl (stays (cut_others w v (reached_side w stream (side_named far)) is)) each
    by_event (event.Drain node max) is fit = drained_each w v.node max here.member.least each

  -- ---- an agent that is told something

  told_each : (w : WorldState) (e : Event) → OfEachSeat P w → (after_none s w e ≡ w) ⊎ Tells s w e (after_none s w e) → OfEachSeat P (after_none s w e)
  told_each w e each (inl same) = subst (OfEachSeat P) (sym same) each
  told_each w e each (inr t) =
      put_life (AtSeat P) w (after_none s w e) t.telling.node (seat_with t.seat.core (agent.after_event t.seat.agent t.telling.what)) (one_least w (after_none s w e) (one_agent s w e (after_none s w e) t))
      (ap (λ (x : WorldState). x.seats) t.after) (keep.told t.seat.core t.seat.agent t.telling.what t.possible t.no_reply (each t.telling.node t.seat t.here)) each

  -- ---- an event

  by_each : (w : WorldState) (e : Event) (c : Choice) (o : Option Visit) → visit_of s w e ≡ o → IsFit s w e → MayCome o c → OfEachSeat P w → OfEachSeat P (after_by s w e c o)
  by_each w e c None is fit comes each = told_each w e each (none_tells s w e fit)
  by_each w e c (Some v) is fit comes each = at_node (visits_are_here s w e v is) where
    at_node : IsHere w v → OfEachSeat P (after_by s w e c (Some v))
    at_node here = behind_each (drains e) (after_visit s w e v c) v.node here.member.least (visit_each w e v c is fit here comes.steps each)

  event_each : (w : WorldState) (e : Event) (c : Choice) → Occurs s w e c → OfEachSeat P w → OfEachSeat P (after_event s w e c)
  unfolding after_event
  event_each w e c occurs each = by_each w e c (visit_of s w e) refl occurs.fit occurs.comes each

  -- ---- a settling, and a restart

  settle_each : (w : WorldState) (node : ℕ) (p : Prefix) → IsDead w node p → OfEachSeat P w → OfEachSeat P (after_settle w node p)
  settle_each w node p dead each =
      let t : Settling w node p (after_settle w node p) = settling_is w node p dead in
      settle_lives (AtSeat P) w node p (after_settle w node p) t (keep.settles t.seat.core t.seat.agent p t.doubtful (each (present_life w node) t.seat t.here)) each

  restart_each : (w : WorldState) (node : ℕ) (image : PoolImage) → MayRestart s w node image → OfEachSeat P w → OfEachSeat P (after_restart s w node image)
  restart_each w node image may each =
      let t : Restarting s w node image (after_restart s w node image) = restarting_is s w node image may in
      let opens : IsReopened image (pool_of_image image) = image_opens image t.image_is.few t.image_is.disjoint in
      restart_seats (AtSeat P) s w node image (after_restart s w node image) t (keep.retires t.seat.core t.seat.agent (each (present_life w node) t.seat t.here))
      (keep.opens t.member.plan (pool_of_image image) (reopened_pool image opens) opens.reserved) each

  -- ---- the beginning

  module _ (good : IsGoodSetting s) where
    -- a member's first life begins with the pool of its roots
    first_opens : (k : ℕ) (m : Member) → numbered s.members k ≡ Some m → P (first_seat m).core (first_seat m).agent
    first_opens k m e = keep.opens m.plan (pool_of m.roots) (opened_pool m.roots (numbered_all (IsGoodMember good.limit) s.members k m good.members e).pool) refl

    first_each : OfEachSeat P (first_world s)
    unfolding first_world
    first_each node seat found = by_zero (node == 0) refl where
      by_member : (node == 0) ≡ false → IsMade first_seat s.members (node - 1) seat → P seat.core seat.agent
      by_member is m = subst (λ (y : Seat). P y.core y.agent) m.made (first_opens node m.of (rw is m.stands))

      by_zero : (b : Bool) → (node == 0) ≡ b → P seat.core seat.agent
      by_zero true is = absurd (none-some seat (subst (λ z. cond z None (slice_get (map first_seat s.members) (node - 1)) ≡ Some seat) is found))
      by_zero false is = by_member is (is_made first_seat s.members (node - 1) seat (subst (λ z. cond z None (slice_get (map first_seat s.members) (node - 1)) ≡ Some seat) is found))

  -- ---- all of it

  pub reached_seats : (w : WorldState) → IsReached s w → OfEachSeat P w
  reached_seats w r = reached_keeps s (OfEachSeat P) (first_each r.good) (record { events = event_each; settles = settle_each; restarts = restart_each }) w r
