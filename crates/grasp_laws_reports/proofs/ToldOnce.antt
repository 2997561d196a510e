-- A session whose outcome was told stays over, whatever happens.
use Rattle.std.proofs.Common.{◌≡◌, ◌≢◌, refl, sym, ap, ◌∙◌, subst, arith, tests, ℕ, ◌+◌, ◌-◌, ◌≤◌, ◌==◌, Bool, true, false, List, length, Contains, Option, Some, None, Ok, slice_set}
use Rattle.std.proofs.lemmas.Option.{none-some}
use Rattle.grasp_agent.specs.Replies.{after_reply}
use Rattle.grasp_agent.specs.States.{AgentState}
use Rattle.grasp_laws_agents.proofs.Places.{owned_at}
use Rattle.grasp_laws_node.proofs.Bounded.Nodes.{begin_kept, nodes_kept}
use Rattle.grasp_model_node.specs.Begin.{begin}
use Rattle.grasp_laws_node.specs.Means.{PollMeans, PollFacts}
use Rattle.grasp_model_node.specs.Node.{NodeState}
use Rattle.grasp_model_node.specs.SessionCalls.{MayPollNode, after_polling}
use Rattle.grasp_model_node.specs.BoundedNodes.{IsBoundedNode}
use Rattle.grasp_model_node.specs.Step.{Coming, NodeStep}
use Rattle.grasp_pool.specs.Functions.{pool_of_image}
use Rattle.grasp_pool.specs.declared.image.PoolImage.{PoolImage}
use Rattle.grasp_laws_session.proofs.Runs.{calls_in_order}
use Rattle.grasp_session.specs.Runs.{Reached}
use Rattle.grasp_session.specs.Sessions.{SessionState, Sessions, session_at}
use Rattle.grasp_types.specs.declared.call.Call.{Call}
use Rattle.grasp_types.specs.declared.reply.ApiAnswer.{ApiAnswer}
use Rattle.grasp_types.specs.declared.reply.Reply.{Reply}
use Rattle.grasp_types.specs.declared.session.Handle.{Handle}
use Rattle.grasp_types.specs.declared.traffic.Input.{Input}
use Rattle.grasp_types.specs.declared.traffic.Input.TheVariants as input
use Rattle.grasp_laws_network.proofs.EachNode.{put_is, nodes_are_sound, first_is, one_each, event_each, behind_each}
use Rattle.grasp_laws_network.proofs.Here.{visits_are_here}
use Rattle.grasp_laws_network.proofs.Others.{put_elsewhere, arrived_keeps, delivered_keeps, told_keeps}
use Rattle.grasp_laws_network.proofs.Reached.{run_keeps, turned_keeps}
use Rattle.grasp_laws_network.proofs.Restarted.{Restarting, restarting_is, restart_seats}
use Rattle.grasp_laws_network.proofs.Staying.{one_same, seats_stay_each}
use Rattle.grasp_laws_network.proofs.Turning.{settle_one}
use Rattle.grasp_laws_network.specs.Lives.{TurnsKeep}
use Rattle.grasp_model_network.specs.EventSteps.{after_agent_call, after_agent, after_arrival, after_clock, after_cut, after_delivery, after_piece}
use Rattle.grasp_model_network.specs.Events.{visit_of, after_visit, after_by, after_event, drains}
use Rattle.grasp_laws_network.specs.Keeping.{IsHere}
use Rattle.grasp_laws_network.specs.Nodes.{OfEachNode}
use Rattle.grasp_model_network.specs.Notes.{noted}
use Rattle.grasp_model_network.specs.StreamChanges.{reached_side, side_named}
use Rattle.grasp_model_network.specs.Openings.{opened_seat}
use Rattle.grasp_model_network.specs.Restarting.{after_restart}
use Rattle.grasp_model_network.specs.Runs.{Happening, IsReached, IsRun, world_after}
use Rattle.grasp_model_network.specs.Sending.{seat_with, stepped}
use Rattle.grasp_model_network.specs.Setting.{Setting, numbered}
use Rattle.grasp_model_network.specs.Streams.{stream_numbered}
use Rattle.grasp_model_network.specs.Turns.{TakenTurn, AreTurns, world_turned}
use Rattle.grasp_model_network.specs.Visits.{Visit, Choice, VisitStep, MayCome}
use Rattle.grasp_model_network.specs.World.{Seat, WorldState, present_life, seat_at}
use Rattle.grasp_model_network.specs.declared.event.Event.{Event}
use Rattle.grasp_model_network.specs.declared.event.Event.TheVariants as event
use Rattle.grasp_laws_delivery.proofs.Inputs.{visit_input}
use Rattle.grasp_laws_reports.proofs.Onward.{begins_grow, step_grows}
use Rattle.grasp_laws_reports.proofs.Polling.{at_handle}
use Rattle.grasp_laws_reports.specs.Laws.{OutcomesAreToldOnce, OutcomesAreToldOnceOverTurns, StaysTold, StaysToldOverTurns}
use Rattle.grasp_laws_reports.specs.Outcomes.{IsOver}

-- ---- the node of a call

-- the network has this node after the step, in place of the one before it
pub record IsPut (w x : WorldState) (v : Visit) (c : Choice) : Type 0 where
  pub agent : AgentState
  pub seats : x.seats ≡ slice_set w.seats (v.node - 1) (seat_with c.after agent)

call_puts : (s : Setting) (w : WorldState) (e : Event) (v : Visit) (c : Choice) (asa : ℕ) (it : Call) → visit_of s w e ≡ Some v → v.input ≡ input.Api asa it → IsPut w (after_visit s w e v c) v c
unfolding after_clock after_agent after_agent_call after_delivery after_arrival after_piece after_cut noted stepped
call_puts s w (event.Clock node millis) v c asa it is own = record { agent = v.seat.agent; seats = refl }
call_puts s w (event.Want node wanted longest peer) v c asa it is own = absurd (none-some v is)
call_puts s w (event.Return node prefix peer) v c asa it is own = absurd (none-some v is)
call_puts s w (event.Agent node hold) v c asa it is own = record { agent = after_reply v.seat.agent c.reply; seats = refl }
call_puts s w (event.Api node agent call hold) v c asa it is own = record { agent = v.seat.agent; seats = refl }
call_puts s w (event.Datagram index hold) v c asa it is own = record { agent = v.seat.agent; seats = refl }
call_puts s w (event.Arrive stream hold) v c asa it is own = record {
  agent = v.seat.agent;
  seats = ap (λ seats. slice_set seats (v.node - 1) (seat_with c.after v.seat.agent)) (arrived_keeps w v (s.arrives_as v.node stream) c.reply (stream_numbered w.streams stream));
}
call_puts s w (event.Bytes stream far count hold) v c asa it is own = record {
  agent = v.seat.agent;
  seats = ap (λ seats. slice_set seats (v.node - 1) (seat_with c.after v.seat.agent)) (delivered_keeps w count (reached_side w stream (side_named far)));
}
call_puts s w (event.Cut stream far hold) v c asa it is own = record {
  agent = v.seat.agent;
  seats = ap (λ seats. slice_set seats (v.node - 1) (seat_with c.after v.seat.agent)) (told_keeps w (reached_side w stream (side_named far)));
}
call_puts s w (event.Drain node max) v c asa it is own =
    let drains : input.Drain max ≡ input.Api asa it = visit_input (present_life w node) (input.Drain max) v (seat_at w (present_life w node)) is ∙ own in absurd (cc)

-- where one node of a network is replaced, P holds of each node, if it holds of the new one and of each other
put_one : (P : ℕ → NodeState → Type 0) (w x : WorldState) (node : ℕ) (seat : Seat) → 1 ≤ node → x.seats ≡ slice_set w.seats (node - 1) seat → P node seat.core
    → ((n : ℕ) (other : Seat) → n ≢ node → seat_at w n ≡ Some other → P n other.core) → OfEachNode P x
put_one P w x node seat least e p others n other found = by_node (n == node) refl where
  at : numbered (slice_set w.seats (node - 1) seat) n ≡ Some other
  at = subst (λ seats. numbered seats n ≡ Some other) e found

  same : (a b : ℕ) → (a == b) ≡ true → a ≡ b
  same a b is = grind (arith, tests)

  differ : (a b : ℕ) → (a == b) ≡ false → a ≢ b
  differ a b is = λ f. grind (arith, tests)

  by_node : (z : Bool) → (n == node) ≡ z → P n other.core
  by_node true is =
      subst (λ k. P k other.core) (sym (same n node is))
      (subst (λ (y : Seat). P node y.core) (put_is w.seats node seat other least (subst (λ k. numbered (slice_set w.seats (node - 1) seat) k ≡ Some other) (same n node is) at)) p)
  by_node false is = others n other (differ n node is) (sym (put_elsewhere w.seats node n seat least (differ n node is)) ∙ at)

-- ---- a session that is no longer live

over_of : (z : Sessions) (h : Handle) (x : SessionState) → Reached z → x.number ≡ h.number → Contains z.gone x → IsOver z h x
over_of z h x reached named gone = record { gone = gone; none_live = by_state (session_at z h) refl } where
  by_state : (o : Option SessionState) → session_at z h ≡ o → session_at z h ≡ None
  by_state None e = e
  by_state (Some y) e =
      let at = at_handle z h y e in
      absurd ((calls_in_order z reached).unused h.place y x at.0 gone (at.1 ∙ sym named))

-- the node of this number keeps the session among those that are no longer live
abbrev KeepsGone : ℕ → SessionState → ℕ → NodeState → Type 0
KeepsGone node x k n = IsBoundedNode n × (k ≡ node → Contains n.sessions.gone x)

gone_kept : (node : ℕ) (x : SessionState) (k : ℕ) (n after : NodeState) (now : ℕ) (i : Input) (c : Coming) (r : Reply) → KeepsGone node x k n → NodeStep n now i c r after → KeepsGone node x k after
gone_kept node x k n after now i c r p step = (nodes_kept.1 n after now i c r p.0 step, λ e. (step_grows n after now i c r step).gone x (p.1 e))

-- a network with the life of this number, which keeps the session so
record HasGone (node : ℕ) (x : SessionState) (w : WorldState) : Type 0 where
  there : node ≤ length w.seats
  gone : OfEachNode (KeepsGone node x) w

-- a life that begins is another one
new_gone : (node : ℕ) (x : SessionState) (w : WorldState) (n : NodeState) → node ≤ length w.seats → IsBoundedNode n → KeepsGone node x (length w.seats + 1) n
new_gone node x w n there bounded = (bounded, λ same. absurd (omega (arith, there, same)))

begun_gone : (s : Setting) (node : ℕ) (x : SessionState) (w y : WorldState) (n : ℕ) (image : PoolImage) → Restarting s w n image y → HasGone node x w → HasGone node x y
begun_gone s node x w y n image t k = record {
  there = let longer : length y.seats ≡ length w.seats + 1 = t.count in let before : node ≤ length w.seats = k.there in omega arith;
  gone = restart_seats (λ j seat. KeepsGone node x j seat.core) s w n image y t (k.gone (present_life w n) t.seat t.here)
      (new_gone node x w (opened_seat t.member.plan (pool_of_image image)).core k.there
      (first_is (λ j other. IsBoundedNode other) (length w.seats + 1) t.member.plan (pool_of_image image) (λ j. nodes_kept.1) (nodes_kept.0 t.member.plan))) k.gone;
}

turns_gone : (s : Setting) (node : ℕ) (x : SessionState) → TurnsKeep s (HasGone node x)
turns_gone s node x = record {
  events = λ w e c o k. record {
    there = subst (λ count. node ≤ count) (sym (seats_stay_each s w e c)) k.there;
    gone = event_each (KeepsGone node x) s w e c (gone_kept node x) o k.gone;
  };
  settles = λ w n p dead k. settle_one w n p (HasGone node x) k
      (λ y o. record { there = subst (λ count. node ≤ count) (sym (one_same w y o)) k.there; gone = one_each (KeepsGone node x) w y o k.gone });
  restarts = λ w n image may k. begun_gone s node x w (after_restart s w n image) n image (restarting_is s w n image may) k;
}

module _ (means : PollMeans) (s : Setting) (w : WorldState) (r : IsReached s w) (e : Event) (c : Choice) (v : Visit) (asa : ℕ) (it : Call) (x : SessionState) (is : visit_of s w e ≡ Some v)
    (own : v.input ≡ input.Api asa it) (comes : VisitStep v c) (left : Contains c.after.sessions.gone x) (h : Handle) (named : x.number ≡ h.number) where
  here : IsHere w v
  here = visits_are_here s w e v is

  visited : IsPut w (after_visit s w e v c) v c → OfEachNode (KeepsGone v.node x) (after_visit s w e v c)
  visited p =
      put_one (KeepsGone v.node x) w (after_visit s w e v c) v.node (seat_with c.after p.agent) here.member.least p.seats
      (nodes_kept.1 v.seat.core c.after v.now v.input c.coming c.reply (nodes_are_sound.sound s w r v.node v.seat here.stands) comes.steps, λ same. left)
      (λ n other apart found. (nodes_are_sound.sound s w r n other found, λ same. absurd (apart same)))

  after_told : OfEachNode (KeepsGone v.node x) (after_event s w e c)
  unfolding after_event
  after_told =
      subst (λ o. OfEachNode (KeepsGone v.node x) (after_by s w e c o)) (sym is)
      (behind_each (KeepsGone v.node x) (drains e) s (after_visit s w e v c) v.node (gone_kept v.node x) here.member.least (visited (call_puts s w e v c asa it is own)))

  told_gone : HasGone v.node x (after_event s w e c)
  told_gone = record { there = subst (λ count. v.node ≤ count) (sym (seats_stay_each s w e c)) here.member.most; gone = after_told }

  later : (hs : List Happening) (seat : Seat) → IsRun s (after_event s w e c) hs → seat_at (world_after s (after_event s w e c) hs) v.node ≡ Some seat → KeepsGone v.node x v.node seat.core
  later hs seat run found =
      run_keeps s (OfEachNode (KeepsGone v.node x)) (λ y f d o each. event_each (KeepsGone v.node x) s y f d (gone_kept v.node x) o each) hs (after_event s w e c) run after_told v.node seat found

  turned : (ts : List TakenTurn) (seat : Seat) → AreTurns s (after_event s w e c) ts → seat_at (world_turned s (after_event s w e c) ts) v.node ≡ Some seat → KeepsGone v.node x v.node seat.core
  turned ts seat run found = (turned_keeps s (HasGone v.node x) (turns_gone s v.node x) ts (after_event s w e c) run told_gone).gone v.node seat found

  none_begun : (n : NodeState) (now : ℕ) → KeepsGone v.node x v.node n → IsOver (begin n now).sessions h x
  none_begun n now k = over_of (begin n now).sessions h x (begin_kept n now k.0).sessions named ((begins_grow n now).gone x (k.1 refl))

  none_answered : (n : NodeState) (agent : ℕ) (a : ApiAnswer) → IsOver n.sessions h x → PollFacts n agent h a (after_polling n h (Ok a)) → ⊥
  none_answered n agent a over f = none-some f.session (sym over.none_live ∙ owned_at n.sessions agent h f.session f.holds.owned)

  is_over : (n : NodeState) → KeepsGone v.node x v.node n → IsOver n.sessions h x
  is_over n k = over_of n.sessions h x k.0.sessions named (k.1 refl)

  none_polled : (n : NodeState) (now agent : ℕ) (a : ApiAnswer) → KeepsGone v.node x v.node n → MayPollNode (begin n now) agent h (Ok a) → ⊥
  none_polled n now agent a k may = none_answered (begin n now) agent a (none_begun n now k) (means (begin n now) agent h a may)

  stays_told : StaysTold s (after_event s w e c) v h x
  stays_told = record {
    over = λ hs seat run found. is_over seat.core (later hs seat run found);
    unanswered = λ hs seat now agent a run found. none_polled seat.core now agent a (later hs seat run found);
  }

  stays_told_over_turns : StaysToldOverTurns s (after_event s w e c) v h x
  stays_told_over_turns = record {
    over = λ ts seat run found. is_over seat.core (turned ts seat run found);
    unanswered = λ ts seat now agent a run found. none_polled seat.core now agent a (turned ts seat run found);
  }

pub outcomes_are_told_once : PollMeans → OutcomesAreToldOnce
outcomes_are_told_once means s w r e c v asa h o t x =
    stays_told means s w r e c v asa _ x.session t.visits t.polls (subst (λ z. MayCome z c) t.visits t.occurs.comes) x.over.gone h x.numbered

pub outcomes_are_told_once_over_turns : PollMeans → OutcomesAreToldOnceOverTurns
outcomes_are_told_once_over_turns means s w r e c v asa h o t x =
    stays_told_over_turns means s w r e c v asa _ x.session t.visits t.polls (subst (λ z. MayCome z c) t.visits t.occurs.comes) x.over.gone h x.numbered
