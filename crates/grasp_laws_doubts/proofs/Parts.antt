-- An event of a network of doubters is a step or a telling, what a doubter makes of it, and a drain or a settling behind it: what each of these keeps,
-- the event keeps.
use Rattle.std.proofs.Common.{◌≡◌, ◌≢◌, ◌⊎◌, inl, inr, refl, sym, ap, ◌∙◌, subst, ℕ, ◌-◌, ◌≤◌, Bool, true, false, List, Option, None, Some, length, slice_get, slice_set, take}
use Rattle.std.proofs.lemmas.Option.{none-some, same_Some}
use Rattle.grasp_agent.specs.Calls.{next_call}
use Rattle.grasp_agent.specs.Replies.{after_reply}
use Rattle.grasp_agent.specs.States.{AgentState}
use Rattle.grasp_types.specs.Prefix.{AddressBlock as Prefix}
use Rattle.grasp_types.specs.declared.address.Locator.{Locator}
use Rattle.grasp_types.specs.declared.reply.Reply.{Reply}
use Rattle.grasp_types.specs.declared.traffic.Input.TheVariants as input
use Rattle.grasp_doubter.specs.Asking.{after_ask, ask_reply}
use Rattle.grasp_doubter.specs.Calls as doubter
use Rattle.grasp_doubter.specs.Replies.{Taken, after_take}
use Rattle.grasp_doubter.specs.Seeing.{after_saw}
use Rattle.grasp_doubter.specs.States.{DoubterState}
use Rattle.grasp_model_node.specs.Begin.{begin}
use Rattle.grasp_model_node.specs.Draining.{closes, after_drain}
use Rattle.grasp_model_node.specs.Node.{NodeState}
use Rattle.grasp_model_node.specs.Step.{NodeStep}
use Rattle.grasp_model_network.specs.EventSteps.{after_agent, after_agent_call, agent_input, agent_seat, agent_visit}
use Rattle.grasp_model_network.specs.Events.{IsFit, Occurs, visit_of, after_visit, after_none, after_by, after_event, drains, drained_behind}
use Rattle.grasp_model_network.specs.Notes.{noted}
use Rattle.grasp_model_network.specs.Plans.{IsNode}
use Rattle.grasp_model_network.specs.Runs.{IsReached}
use Rattle.grasp_model_network.specs.Sending as network
use Rattle.grasp_model_network.specs.Sending.{event_drain, seat_with, stepped, drained_at, drained_from}
use Rattle.grasp_model_network.specs.Setting.{Setting, numbered}
use Rattle.grasp_model_network.specs.Settling.{after_settle}
use Rattle.grasp_model_network.specs.Visits.{Visit, Choice, MayCome, VisitStep, visit_seat}
use Rattle.grasp_model_network.specs.World.{Seat, WorldState, present_life, seat_at, with_seat}
use Rattle.grasp_model_network.specs.declared.event.Event.{Event}
use Rattle.grasp_model_network.specs.declared.event.Event.TheVariants as event
use Rattle.grasp_model_doubts.specs.Events.{CallOccurs, DoubtOccurs, IsPlain, doubt_event}
use Rattle.grasp_model_doubts.specs.Steps.{after_asking, after_doubter, after_doubter_call, after_plain, asking_answer, asking_reply, doubter_asking, doubter_called, doubter_event, doubters_after, having_seen, seeing, settled_where, taken_at, taken_beside}
use Rattle.grasp_model_doubts.specs.World.{DoubtState, present_seat, with_doubter}
use Rattle.grasp_model_doubts.specs.declared.event.DoubtEvent.{DoubtEvent}
use Rattle.grasp_model_doubts.specs.declared.event.DoubtEvent.TheVariants as doubt
use Rattle.grasp_laws_delivery.proofs.Holding.{held_reached}
use Rattle.grasp_laws_network.proofs.Appended.{numbered_get, get_numbered}
use Rattle.grasp_laws_network.proofs.Going.{reached_more}
use Rattle.grasp_laws_network.proofs.Here.{numbered_within, visits_are_here}
use Rattle.grasp_laws_network.proofs.Lists.{numbered_there}
use Rattle.grasp_laws_network.proofs.Lives.{same_present}
use Rattle.grasp_laws_network.proofs.LivesKept.{lives_are_kept}
use Rattle.grasp_laws_network.proofs.SameLives.{behind_lives, event_lives, visit_lives}
use Rattle.grasp_laws_network.proofs.Sent.{sending_keeps_nodes}
use Rattle.grasp_laws_network.proofs.Staying.{put_here, set_here}
use Rattle.grasp_laws_network.proofs.Telling.{none_tells}
use Rattle.grasp_laws_network.specs.Keeping.{IsHere}
use Rattle.grasp_laws_network.specs.Telling.{Tells}
use Rattle.grasp_laws_prefixes.proofs.QuietSteps.{IsOthersStep}

-- ---- what is kept

-- the step that the agent of prefixes of a member makes, where the member stands so in its present life
abbrev pub agent_visit_of : WorldState → ℕ → Seat → Visit
agent_visit_of w node seat = record { node = present_life w node; seat = seat; now = seat.core.reading; input = agent_input seat.agent }

-- the step that the doubter of a member makes
abbrev pub doubter_visit_of : WorldState → ℕ → Seat → DoubterState → Visit
doubter_visit_of w node seat d = record { node = present_life w node; seat = seat; now = seat.core.reading; input = input.Api 2 (doubter.next_call d) }

-- what each part of an event keeps of a network and of its doubters, where S is so of each prefix that a doubter settles
pub record DoubtPartsKeep (s : Setting) (S : WorldState → ℕ → Prefix → Type 0) (P : WorldState → List DoubterState → Type 0) : Type 0 where
  -- a step, and the network after it, which turns lead to
  pub steps : (w : WorldState) (ds : List DoubterState) (e : Event) (c : Choice) (v : Visit) → IsReached s w → P w ds → Occurs s w e c → IsPlain e → visit_of s w e ≡ Some v → IsOthersStep e
      → IsReached s (after_visit s w e v c) → P (after_visit s w e v c) ds
  -- a call of a member's agent of prefixes, of which the member's doubter is told
  pub agents : (w : WorldState) (ds : List DoubterState) (node : ℕ) (hold : Bool) (c : Choice) (seat : Seat) (d : DoubterState) → IsReached s w → P w ds → Occurs s w (event.Agent node hold) c
      → visit_of s w (event.Agent node hold) ≡ Some (agent_visit_of w node seat) → seat_at w (present_life w node) ≡ Some seat → numbered ds node ≡ Some d
      → NodeStep seat.core seat.core.reading (agent_input seat.agent) c.coming c.reply c.after → IsReached s (after_agent w (agent_visit_of w node seat) c)
      → P (after_agent w (agent_visit_of w node seat) c) (with_doubter ds node (after_saw d (after_reply seat.agent c.reply).pool (next_call seat.agent) c.reply))
  -- a call of a member's doubter, which takes the reply
  pub calls : (w : WorldState) (ds : List DoubterState) (node : ℕ) (c : Choice) (seat : Seat) (d : DoubterState) → IsReached s w → P w ds → Occurs s w (doubter_event d node) c
      → visit_of s w (doubter_event d node) ≡ Some (doubter_visit_of w node seat d) → seat_at w (present_life w node) ≡ Some seat → numbered ds node ≡ Some d
      → NodeStep seat.core seat.core.reading (input.Api 2 (doubter.next_call d)) c.coming c.reply c.after → IsReached s (after_agent_call w (doubter_visit_of w node seat d) 2 (doubter.next_call d) c)
      → P (after_agent_call w (doubter_visit_of w node seat d) 2 (doubter.next_call d) c) (with_doubter ds node (after_take d seat.agent c.reply).after)
  -- an agent of prefixes that is told something
  pub told : (w x : WorldState) (ds : List DoubterState) (e : Event) → IsReached s w → IsReached s x → Tells s w e x → P w ds → P x ds
  -- a drain
  pub drains : (w : WorldState) (ds : List DoubterState) (node max : ℕ) → IsReached s w → IsReached s (network.drained s w node max) → P w ds → 1 ≤ node → P (network.drained s w node max) ds
  -- a settling behind the reply that says so
  pub settles : (w : WorldState) (ds : List DoubterState) (node : ℕ) (p : Prefix) (d f : DoubterState) (r : Reply) (seat : Seat) → IsReached s w → S w node p → numbered ds node ≡ Some f
      → seat_at w (present_life w node) ≡ Some seat → (after_take d seat.agent r).settled ≡ Some p → f ≡ (after_take d seat.agent r).after → P w ds → P (after_settle w node p) ds
  -- a question that a member's doubter is to ask
  pub asks : (w : WorldState) (ds : List DoubterState) (node : ℕ) (p : Prefix) (peer : Locator) (d : DoubterState) (seat : Seat) → IsReached s w → P w ds → numbered ds node ≡ Some d
      → seat_at w (present_life w node) ≡ Some seat → P w (with_doubter ds node (after_ask d p peer (ask_reply d seat.agent.pool p)))

-- ---- lists of doubters

-- what is put at the number of a member is found there
pub doubter_put : (ds : List DoubterState) (node : ℕ) (d f : DoubterState) → numbered ds node ≡ Some d → numbered (with_doubter ds node f) node ≡ Some f
doubter_put ds node d f is =
    get_numbered (with_doubter ds node f) node (Some f) (numbered_within ds node d is).least (set_here ds (node - 1) d f (numbered_get ds node d is))

-- ---- the seat of a member's present life

-- a drain behind an event leaves the agent
pub behind_agent : (b : Bool) (s : Setting) (w : WorldState) (node : ℕ) (seat : Seat) → seat_at w node ≡ Some seat
    → (z : Seat) × (seat_at (drained_behind b s w node) node ≡ Some z) × (z.agent ≡ seat.agent)
unfolding network.drained
behind_agent false s w node seat here = (seat, here, refl)
behind_agent true s w node seat here = by_seat (seat_at w node) here where
  from : (m : NodeState) → (z : Seat) × (seat_at (drained_from s w node seat m event_drain) node ≡ Some z) × (z.agent ≡ seat.agent)
  from m =
      let new : Seat = seat_with (after_drain m event_drain) seat.agent in (
        new,
        ap (λ (xs : List Seat). numbered xs node) (sending_keeps_nodes s (with_seat w node new) node (take event_drain m.queue) (closes m event_drain)) ∙ put_here w.seats node seat new here,
        refl,
      )

  by_seat : (o : Option Seat) → o ≡ Some seat → (z : Seat) × (seat_at (drained_at s w node event_drain o) node ≡ Some z) × (z.agent ≡ seat.agent)
  by_seat None e = absurd (none-some seat e)
  by_seat (Some y) e = subst (λ (y : Seat). (z : Seat) × (seat_at (drained_at s w node event_drain (Some y)) node ≡ Some z) × (z.agent ≡ seat.agent)) (sym (same_Some y seat e)) (from (begin seat.core seat.core.reading))

-- a member of a network that turns lead to has a present life
pub member_seat : (s : Setting) (w : WorldState) (node : ℕ) → IsReached s w → IsNode (length s.members) node → (seat : Seat) × (seat_at w (present_life w node) ≡ Some seat)
member_seat s w node r is = numbered_there w.seats (present_life w node) ((lives_are_kept s w r).present node is)

-- ---- an event

-- it is no call of an agent of prefixes
abbrev IsOther : Event → Type 0
IsOther (event.Agent node hold) = ⊥
IsOther _ = Unit {0}

pub after_is : (s : Setting) (w : WorldState) (e : Event) (c : Choice) (v : Visit) → visit_of s w e ≡ Some v → after_event s w e c ≡ drained_behind (drains e) s (after_visit s w e v c) v.node
unfolding after_event
after_is s w e c v is = ap (λ (o : Option Visit). after_by s w e c o) is

none_is : (s : Setting) (w : WorldState) (e : Event) (c : Choice) → visit_of s w e ≡ None → after_event s w e c ≡ after_none s w e
unfolding after_event
none_is s w e c is = ap (λ (o : Option Visit). after_by s w e c o) is

-- the step that it makes
pub step_of : (s : Setting) (w : WorldState) (e : Event) (c : Choice) (v : Visit) → Occurs s w e c → visit_of s w e ≡ Some v → NodeStep v.seat.core v.now v.input c.coming c.reply c.after
step_of s w e c v o is = let step : VisitStep v c = subst (λ (x : Option Visit). MayCome x c) is o.comes in step.steps

module _ (s : Setting) (S : WorldState → ℕ → Prefix → Type 0) (P : WorldState → List DoubterState → Type 0) (k : DoubtPartsKeep s S P) where
  behind_kept : (b : Bool) (w : WorldState) (ds : List DoubterState) (node : ℕ) → IsReached s w → IsReached s (drained_behind b s w node) → P w ds → 1 ≤ node → P (drained_behind b s w node) ds
  behind_kept true w ds node r q p least = k.drains w ds node event_drain r q p least
  behind_kept false w ds node r q p least = p

  -- ---- a plain one, but for a call of an agent of prefixes

  part_kept : (w : WorldState) (ds : List DoubterState) (e : Event) (c : Choice) (v : Visit) → IsReached s w → P w ds → Occurs s w e c → IsPlain e → IsOther e → visit_of s w e ≡ Some v → 1 ≤ v.node
      → P (after_visit s w e v c) ds
  part_kept w ds (event.Clock node millis) c v r p o plain other is least =
      k.steps w ds (event.Clock node millis) c v r p o plain is tt (held_reached s w (event.Clock node millis) c v r o is)
  part_kept w ds (event.Want node length longest peer) c v r p o plain other is least = p
  part_kept w ds (event.Return node prefix peer) c v r p o plain other is least = p
  part_kept w ds (event.Agent node hold) c v r p o plain other is least = absurd other
  part_kept w ds (event.Api node asa call hold) c v r p o plain other is least =
      k.steps w ds (event.Api node asa call hold) c v r p o plain is tt (held_reached s w (event.Api node asa call hold) c v r o is)
  part_kept w ds (event.Datagram index hold) c v r p o plain other is least =
      k.steps w ds (event.Datagram index hold) c v r p o plain is tt (held_reached s w (event.Datagram index hold) c v r o is)
  part_kept w ds (event.Arrive stream hold) c v r p o plain other is least =
      k.steps w ds (event.Arrive stream hold) c v r p o plain is tt (held_reached s w (event.Arrive stream hold) c v r o is)
  part_kept w ds (event.Bytes stream far count hold) c v r p o plain other is least =
      k.steps w ds (event.Bytes stream far count hold) c v r p o plain is tt (held_reached s w (event.Bytes stream far count hold) c v r o is)
  part_kept w ds (event.Cut stream far hold) c v r p o plain other is least =
      k.steps w ds (event.Cut stream far hold) c v r p o plain is tt (held_reached s w (event.Cut stream far hold) c v r o is)
  part_kept w ds (event.Drain node max) c v r p o plain other is least =
      k.drains w ds v.node max r (held_reached s w (event.Drain node max) c v r o is) p least

  none_kept : (w : WorldState) (ds : List DoubterState) (e : Event) → IsReached s w → IsReached s (after_none s w e) → P w ds → (after_none s w e ≡ w) ⊎ Tells s w e (after_none s w e) → P (after_none s w e) ds
  none_kept w ds e r q p (inl same) = subst (λ x. P x ds) (sym same) p
  none_kept w ds e r q p (inr t) = k.told w (after_none s w e) ds e r q t p

  other_kept : (w : WorldState) (ds : List DoubterState) (e : Event) (c : Choice) → IsReached s w → P w ds → Occurs s w e c → IsPlain e → IsOther e → P (after_event s w e c) ds
  other_kept w ds e c r p o plain other = by_visit (visit_of s w e) refl where
    by_visit : (x : Option Visit) → visit_of s w e ≡ x → P (after_event s w e c) ds
    by_visit None is =
        let none = none_is s w e c is in subst (λ x. P x ds) (sym none) (none_kept w ds e r (subst (IsReached s) none (reached_more s w e c r o)) p (none_tells s w e o.fit))
    by_visit (Some v) is =
        let least = (visits_are_here s w e v is).member.least in
        let after = after_is s w e c v is in
        subst (λ x. P x ds) (sym after)
        (behind_kept (drains e) (after_visit s w e v c) ds v.node (held_reached s w e c v r o is) (subst (IsReached s) after (reached_more s w e c r o)) (part_kept w ds e c v r p o plain other is least) least)

  -- ---- a call of an agent of prefixes

  agent_visit_is : (w : WorldState) (node : ℕ) (hold : Bool) (seat : Seat) → seat_at w (present_life w node) ≡ Some seat
      → visit_of s w (event.Agent node hold) ≡ agent_seat (present_life w node) (Some seat)
  unfolding agent_visit
  agent_visit_is w node hold seat here = ap (λ o. agent_seat (present_life w node) o) here

  agent_there : (w : WorldState) (v : Visit) (c : Choice) → seat_at w v.node ≡ Some v.seat → seat_at (after_agent w v c) v.node ≡ Some (seat_with c.after (after_reply v.seat.agent c.reply))
  unfolding after_agent noted stepped
  agent_there w v c here = put_here w.seats v.node v.seat (seat_with c.after (after_reply v.seat.agent c.reply)) here

  -- what the doubter sees
  seen_is : (w y : WorldState) (ds : List DoubterState) (node : ℕ) (c : Choice) (d : DoubterState) (before after : Seat) → numbered ds node ≡ Some d
      → seat_at w (present_life w node) ≡ Some before → seat_at y (present_life y node) ≡ Some after
      → having_seen (record { world = w; doubters = ds }) node c y (numbered ds node) ≡ with_doubter ds node (after_saw d after.agent.pool (next_call before.agent) c.reply)
  seen_is w y ds node c d before after is here there =
      ap (λ o. having_seen (record { world = w; doubters = ds }) node c y o) is
      ∙ (ap (λ o. with_doubter ds node (seeing d o (present_seat y node) c)) here ∙ ap (λ o. with_doubter ds node (seeing d (Some before) o c)) there)

  agent_kept : (w : WorldState) (ds : List DoubterState) (node : ℕ) (hold : Bool) (c : Choice) (d : DoubterState) → IsReached s w → P w ds → Occurs s w (event.Agent node hold) c → numbered ds node ≡ Some d
      → P (after_event s w (event.Agent node hold) c) (having_seen (record { world = w; doubters = ds }) node c (after_event s w (event.Agent node hold) c) (numbered ds node))
  agent_kept w ds node hold c d r p o is = from (member_seat s w node r o.fit) where
    from : (seat : Seat) × (seat_at w (present_life w node) ≡ Some seat)
        → P (after_event s w (event.Agent node hold) c) (having_seen (record { world = w; doubters = ds }) node c (after_event s w (event.Agent node hold) c) (numbered ds node))
    from f = by_seen (behind_agent (drains (event.Agent node hold)) s (after_agent w v c) v.node (seat_with c.after (after_reply seat.agent c.reply)) (agent_there w v c here)) where
      seat : Seat
      seat = f.0

      here : seat_at w (present_life w node) ≡ Some seat
      here = f.1

      v : Visit
      v = agent_visit_of w node seat

      visit_is : visit_of s w (event.Agent node hold) ≡ Some v
      visit_is = agent_visit_is w node hold seat here

      seen : List DoubterState
      seen = with_doubter ds node (after_saw d (after_reply seat.agent c.reply).pool (next_call seat.agent) c.reply)

      reached : IsReached s (after_agent w v c)
      reached = held_reached s w (event.Agent node hold) c v r o visit_is

      after : after_event s w (event.Agent node hold) c ≡ drained_behind (drains (event.Agent node hold)) s (after_agent w v c) v.node
      after = after_is s w (event.Agent node hold) c v visit_is

      kept : P (after_event s w (event.Agent node hold) c) seen
      kept =
          subst (λ x. P x seen) (sym after)
          (behind_kept (drains (event.Agent node hold)) (after_agent w v c) seen v.node reached (subst (IsReached s) after (reached_more s w (event.Agent node hold) c r o)) (k.agents w ds node hold c seat d r p o visit_is here is (step_of s w (event.Agent node hold) c v o visit_is) reached)
          (visits_are_here s w (event.Agent node hold) v visit_is).member.least)

      present : present_life (after_event s w (event.Agent node hold) c) node ≡ present_life w node
      present = same_present w (after_event s w (event.Agent node hold) c) node (event_lives s w (event.Agent node hold) c)

      by_seen : (z : Seat) × (seat_at (drained_behind (drains (event.Agent node hold)) s (after_agent w v c) v.node) v.node ≡ Some z) × (z.agent ≡ after_reply seat.agent c.reply)
          → P (after_event s w (event.Agent node hold) c) (having_seen (record { world = w; doubters = ds }) node c (after_event s w (event.Agent node hold) c) (numbered ds node))
      by_seen z =
          let now : seat_at (after_event s w (event.Agent node hold) c) (present_life (after_event s w (event.Agent node hold) c) node) ≡ Some z.0
          = ap (λ n. seat_at (after_event s w (event.Agent node hold) c) n) present ∙ (ap (λ x. seat_at x (present_life w node)) after ∙ z.1) in
          subst (λ xs. P (after_event s w (event.Agent node hold) c) xs)
          (sym (seen_is w (after_event s w (event.Agent node hold) c) ds node c d seat z.0 is here now
          ∙ ap (λ (a : AgentState). with_doubter ds node (after_saw d a.pool (next_call seat.agent) c.reply)) z.2)) kept

  -- ---- a call of a doubter

  doubter_visit_is : (w : WorldState) (node : ℕ) (d : DoubterState) (seat : Seat) → seat_at w (present_life w node) ≡ Some seat
      → visit_of s w (doubter_event d node) ≡ visit_seat (present_life w node) (input.Api 2 (doubter.next_call d)) (Some seat)
  doubter_visit_is w node d seat here = ap (λ o. visit_seat (present_life w node) (input.Api 2 (doubter.next_call d)) o) here

  call_there : (w : WorldState) (v : Visit) (c : Choice) (d : DoubterState) → seat_at w v.node ≡ Some v.seat
      → seat_at (after_agent_call w v 2 (doubter.next_call d) c) v.node ≡ Some (seat_with c.after v.seat.agent)
  unfolding after_agent_call noted stepped
  call_there w v c d here = put_here w.seats v.node v.seat (seat_with c.after v.seat.agent) here

  call_kept : (w : WorldState) (ds : List DoubterState) (node : ℕ) (c : Choice) (d : DoubterState) → IsReached s w → P w ds → Occurs s w (doubter_event d node) c → numbered ds node ≡ Some d
      → ((p : Prefix) → (taken_at s w node d c).settled ≡ Some p → S (after_doubter_call s w node d c) node p)
      → P (settled_where (after_doubter_call s w node d c) node (taken_at s w node d c).settled) (with_doubter ds node (taken_at s w node d c).after)
  call_kept w ds node c d r p o is so_it_is = from (member_seat s w node r o.fit.0) where
    from : (seat : Seat) × (seat_at w (present_life w node) ≡ Some seat)
        → P (settled_where (after_doubter_call s w node d c) node (taken_at s w node d c).settled) (with_doubter ds node (taken_at s w node d c).after)
    from f = by_seen (behind_agent true s (after_agent_call w v 2 (doubter.next_call d) c) v.node (seat_with c.after seat.agent) (call_there w v c d here)) where
      seat : Seat
      seat = f.0

      here : seat_at w (present_life w node) ≡ Some seat
      here = f.1

      v : Visit
      v = doubter_visit_of w node seat d

      visit_is : visit_of s w (doubter_event d node) ≡ Some v
      visit_is = doubter_visit_is w node d seat here

      y : WorldState
      y = after_doubter_call s w node d c

      took : List DoubterState
      took = with_doubter ds node (after_take d seat.agent c.reply).after

      reached : IsReached s (after_agent_call w v 2 (doubter.next_call d) c)
      reached = held_reached s w (doubter_event d node) c v r o visit_is

      after : y ≡ drained_behind true s (after_agent_call w v 2 (doubter.next_call d) c) v.node
      after = after_is s w (doubter_event d node) c v visit_is

      kept : P y took
      kept =
          subst (λ x. P x took) (sym after)
          (behind_kept true (after_agent_call w v 2 (doubter.next_call d) c) took v.node reached (subst (IsReached s) after (reached_more s w (doubter_event d node) c r o)) (k.calls w ds node c seat d r p o visit_is here is (step_of s w (doubter_event d node) c v o visit_is) reached)
          (visits_are_here s w (doubter_event d node) v visit_is).member.least)

      present : present_life y node ≡ present_life w node
      present = same_present w y node (event_lives s w (doubter_event d node) c)

      by_seen : (z : Seat) × (seat_at (drained_behind true s (after_agent_call w v 2 (doubter.next_call d) c) v.node) v.node ≡ Some z) × (z.agent ≡ seat.agent)
          → P (settled_where y node (taken_at s w node d c).settled) (with_doubter ds node (taken_at s w node d c).after)
      by_seen z = subst (λ (t : Taken). P (settled_where y node t.settled) (with_doubter ds node t.after)) (sym taken) (by_settled (after_take d seat.agent c.reply).settled refl) where
        now : seat_at y (present_life y node) ≡ Some z.0
        now = ap (λ n. seat_at y n) present ∙ (ap (λ x. seat_at x (present_life w node)) after ∙ z.1)

        taken : taken_at s w node d c ≡ after_take d seat.agent c.reply
        taken = ap (λ o. taken_beside o d c) now ∙ ap (λ (a : AgentState). after_take d a c.reply) z.2

        by_settled : (o : Option Prefix) → (after_take d seat.agent c.reply).settled ≡ o → P (settled_where y node o) took
        by_settled None e = kept
        by_settled (Some q) e =
            k.settles y took node q d (after_take d seat.agent c.reply).after c.reply z.0 (reached_more s w (doubter_event d node) c r o) (so_it_is q (ap (λ (t : Taken). t.settled) taken ∙ e))
            (doubter_put ds node d (after_take d seat.agent c.reply).after is) now (ap (λ (a : AgentState). (after_take d a c.reply).settled) z.2 ∙ e)
            (ap (λ (a : AgentState). (after_take d a c.reply).after) (sym z.2)) kept

  -- ---- a question

  ask_kept : (x : DoubtState) (node : ℕ) (p : Prefix) (peer : ℕ) (d : DoubterState) (l : Locator) (seat : Seat) → IsReached s x.world → P x.world x.doubters → numbered x.doubters node ≡ Some d
      → numbered s.peers peer ≡ Some l → seat_at x.world (present_life x.world node) ≡ Some seat → P x.world (after_asking s x node p peer).doubters
  unfolding after_asking
  ask_kept x node p peer d l seat r all is at here =
      subst (λ ds. P x.world ds) (sym
      (ap (λ o. doubter_asking x.doubters node p (numbered s.peers peer) (asking_answer o (present_seat x.world node) p) o) is
      ∙ (ap (λ o. doubter_asking x.doubters node p o (asking_answer (Some d) (present_seat x.world node) p) (Some d)) at
      ∙ ap (λ o. doubter_asking x.doubters node p (Some l) (asking_answer (Some d) o p) (Some d)) here)))
      (k.asks x.world x.doubters node p l d seat r all is here)

  -- ---- each event

  -- where it settles a prefix, S is so of that
  abbrev pub SettlesSo : DoubtState → DoubtEvent → Choice → Type 0
  SettlesSo x (doubt.Plain e) c = Unit {0}
  SettlesSo x (doubt.Doubter node) c =
      (d : DoubterState) (p : Prefix) → numbered x.doubters node ≡ Some d → (taken_at s x.world node d c).settled ≡ Some p → S (after_doubter_call s x.world node d c) node p
  SettlesSo x (doubt.Ask node p peer) c = Unit {0}

  member_doubter : (x : DoubtState) (node : ℕ) → length x.doubters ≡ length s.members → IsNode (length s.members) node → (d : DoubterState) × (numbered x.doubters node ≡ Some d)
  member_doubter x node count is = numbered_there x.doubters node (subst (λ n. IsNode n node) (sym count) is)

  doubters_same : (x : DoubtState) (e : Event) (c : Choice) (w : WorldState) → IsOther e → doubters_after x e c w ≡ x.doubters
  doubters_same x (event.Agent node hold) c w other = absurd other
  doubters_same x _ c w other = refl

  plain_kept : (x : DoubtState) (e : Event) (c : Choice) → IsReached s x.world → length x.doubters ≡ length s.members → Occurs s x.world e c → IsPlain e → P x.world x.doubters
      → P (after_event s x.world e c) (doubters_after x e c (after_event s x.world e c))
  plain_kept x e c r count o plain all = by_other e o plain where
    still : (e : Event) → Occurs s x.world e c → IsPlain e → IsOther e → P (after_event s x.world e c) (doubters_after x e c (after_event s x.world e c))
    still e o plain other =
        subst (λ ds. P (after_event s x.world e c) ds) (sym (doubters_same x e c (after_event s x.world e c) other)) (other_kept x.world x.doubters e c r all o plain other)

    by_other : (e : Event) → Occurs s x.world e c → IsPlain e → P (after_event s x.world e c) (doubters_after x e c (after_event s x.world e c))
    by_other (event.Agent node hold) o plain =
        let f = member_doubter x node count o.fit in agent_kept x.world x.doubters node hold c f.0 r all o f.1
    by_other (event.Clock node millis) o plain = still (event.Clock node millis) o plain tt
    by_other (event.Want node length longest peer) o plain = still (event.Want node length longest peer) o plain tt
    by_other (event.Return node prefix peer) o plain = still (event.Return node prefix peer) o plain tt
    by_other (event.Api node asa call hold) o plain = still (event.Api node asa call hold) o plain tt
    by_other (event.Datagram index hold) o plain = still (event.Datagram index hold) o plain tt
    by_other (event.Arrive stream hold) o plain = still (event.Arrive stream hold) o plain tt
    by_other (event.Bytes stream far count hold) o plain = still (event.Bytes stream far count hold) o plain tt
    by_other (event.Cut stream far hold) o plain = still (event.Cut stream far hold) o plain tt
    by_other (event.Drain node max) o plain = still (event.Drain node max) o plain tt

  pub doubt_kept : (x : DoubtState) (e : DoubtEvent) (c : Choice) → IsReached s x.world → length x.doubters ≡ length s.members → DoubtOccurs s x e c → SettlesSo x e c → P x.world x.doubters
      → P (doubt_event s x e c).world (doubt_event s x e c).doubters
  unfolding after_plain after_doubter after_asking
  doubt_kept x (doubt.Plain e) c r count o so_it_is all = plain_kept x e c r count o.0 o.1 all
  doubt_kept x (doubt.Doubter node) c r count o so_it_is all = by_doubter (numbered x.doubters node) refl o where
    by_doubter : (f : Option DoubterState) → numbered x.doubters node ≡ f → CallOccurs s x.world node c f → P (doubter_called s x node c f).world (doubter_called s x node c f).doubters
    by_doubter None is o = all
    by_doubter (Some d) is o = call_kept x.world x.doubters node c d r all o is (λ p e. so_it_is d p is e)
  doubt_kept x (doubt.Ask node p peer) c r count o so_it_is all =
      let f = member_doubter x node count o.0 in
      let l = numbered_there s.peers peer o.1 in
      let seat = member_seat s x.world node r o.0 in
      ask_kept x node p peer f.0 l.0 seat.0 r all f.1 l.1 seat.1
