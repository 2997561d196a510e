-- How the sides of streams stand after each event.
use Rattle.std.proofs.Common.{◌≡◌, ◌≢◌, ◌⊎◌, inl, inr, refl, sym, ap, ◌∙◌, subst, ℕ, Bool, true, false, cond, List, length, slice_get, Option, None, Some}
use Rattle.std.proofs.lemmas.Bool.{true≢false}
use Rattle.std.proofs.lemmas.Option.{none-some}
use Rattle.grasp_agent.specs.Replies.{after_reply}
use Rattle.grasp_agent.specs.States.{AgentState}
use Rattle.grasp_laws_delivery.proofs.Came.Inputs.{IsOpening, IsReaching, opening_is, cut_is}
use Rattle.grasp_laws_delivery.proofs.FromReady.{distinct}
use Rattle.grasp_laws_delivery.proofs.Heard.Steps.{IsReachedSide, reached_is}
use Rattle.grasp_laws_delivery.proofs.OnePlace.{has_it, one_talk}
use Rattle.grasp_laws_delivery.proofs.Sides.{at_end_has, one_side, place_changed}
use Rattle.grasp_laws_delivery.specs.Ready.{StreamsAreReady}
use Rattle.grasp_laws_network.proofs.Telling.{none_one}
use Rattle.grasp_laws_network.specs.Telling.{OneAgent}
use Rattle.grasp_model_network.specs.EventSteps.{after_agent, after_agent_call, after_arrival, after_clock, after_cut, after_delivery, after_piece}
use Rattle.grasp_model_network.specs.Events.{Occurs, after_event, after_visit, drained_behind, drains, visit_of}
use Rattle.grasp_model_network.specs.Notes.{noted}
use Rattle.grasp_model_network.specs.Runs.{IsReached}
use Rattle.grasp_model_network.specs.Sending as network
use Rattle.grasp_model_network.specs.Sending.{event_drain, stepped}
use Rattle.grasp_model_network.specs.Setting.{Setting}
use Rattle.grasp_model_network.specs.StreamChanges.{Reached, arrival_by, arrived, delivered, reached_side, side_named, told}
use Rattle.grasp_model_network.specs.Streams.{StreamEnd, StreamState, at_end, change_at_end, end_at, lives, side_at, stream_numbered, told_closed, turned_away, with_delivered, with_far, with_side}
use Rattle.grasp_model_network.specs.Visits.{Visit, Choice, VisitStep, is_starved}
use Rattle.grasp_model_network.specs.World.{WorldState, end_of}
use Rattle.grasp_model_network.specs.declared.event.Event.{Event}
use Rattle.grasp_model_network.specs.declared.event.Event.TheVariants as event
use Rattle.grasp_model_node.specs.Begin.{begin}
use Rattle.grasp_model_node.specs.Node.{NodeState}
use Rattle.grasp_model_node.specs.Opening.{MayOpen, is_ignored, opened_reply}
use Rattle.grasp_model_node.specs.Step.{Acts}
use Rattle.grasp_model_node.specs.Streams.{is_full}
use Rattle.grasp_session.specs.Messages.{Side, Near, Far, other}
use Rattle.grasp_types.specs.declared.reply.Reply.{Reply}
use Rattle.grasp_types.specs.declared.reply.Reply.TheVariants as reply
use Rattle.grasp_types.specs.declared.traffic.Input.{Input}
use Rattle.grasp_types.specs.declared.traffic.Input.TheVariants as input
use Rattle.grasp_laws_events.proofs.Keeping.{same, KeepsSides, BringsNew, keeps_same, new_then, change_brings, change_keeps, delivered_leaves, stepped_keeps, drained_keeps}
use Rattle.grasp_laws_events.proofs.Numbered.{has_number, one_numbered}
use Rattle.grasp_laws_events.proofs.Parts.{after_is, comes_is, none_is}
use Rattle.grasp_laws_events.proofs.Steps.{sides_same}
use Rattle.grasp_laws_events.specs.Sides.{StandsSame, StandsOpened, StandsTold, StandsAfter, SidesStandSo}
use Rattle.grasp_laws_events.specs.Steps.{IsTalkNumbered, far_or_near}

-- ---- what an opening is replied

opened_two : (n : NodeState) (stream : ℕ) → (opened_reply n stream ≡ reply.Turned) ⊎ (opened_reply n stream ≡ reply.Taken)
opened_two n stream = by (is_ignored n stream) (is_full n.streams) where
  by : (a b : Bool) → (cond a reply.Taken (cond b reply.Turned reply.Taken) ≡ reply.Turned) ⊎ (cond a reply.Taken (cond b reply.Turned reply.Taken) ≡ reply.Taken)
  by true b = inr refl
  by false true = inl refl
  by false false = inr refl

may_reply : (n : NodeState) (stream : ℕ) (q : Reply) → MayOpen n stream q → is_starved q ≡ false → q ≡ opened_reply n stream
may_reply n stream reply.OutOfMemory m fed = absurd (true≢false fed)
may_reply n stream _ m fed = m

-- the arrival is the reply's
abbrev Replied : Reply → Type 0
Replied q = ((q ≡ reply.Turned) × (arrival_by q ≡ turned_away)) ⊎ ((q ≡ reply.Taken) × (arrival_by q ≡ lives))

replied : (n : NodeState) (stream : ℕ) (q : Reply) → MayOpen n stream q → is_starved q ≡ false → Replied q
replied n stream q m fed = by (opened_two n stream) where
  is : q ≡ opened_reply n stream
  is = may_reply n stream q m fed

  by : (opened_reply n stream ≡ reply.Turned) ⊎ (opened_reply n stream ≡ reply.Taken) → Replied q
  by (inl e) = inl (is ∙ e, ap arrival_by (is ∙ e))
  by (inr e) = inr (is ∙ e, ap arrival_by (is ∙ e))

-- ---- what stands so still does once each side is as it was

opened_still : (s : Setting) (life k : ℕ) (r : Reply) (t u x : StreamState) → StandsOpened s life k r t u → StandsSame u x → StandsOpened s life k r t x
opened_still s life k r t u x a b = record { near_side = b.near_side ∙ a.near_side; far = b.far ∙ a.far; replied = by a.replied } where
  by : ((r ≡ reply.Turned) × (u.far_side ≡ turned_away)) ⊎ ((r ≡ reply.Taken) × (u.far_side ≡ lives)) → ((r ≡ reply.Turned) × (x.far_side ≡ turned_away)) ⊎ ((r ≡ reply.Taken) × (x.far_side ≡ lives))
  by (inl (e, f)) = inl (e, b.far_side ∙ f)
  by (inr (e, f)) = inr (e, b.far_side ∙ f)

side_still : (side : Side) (u x : StreamState) → StandsSame u x → side_at x side ≡ side_at u side
side_still Near u x b = b.near_side
side_still Far u x b = b.far_side

told_still : (side : Side) (t u x : StreamState) → StandsTold side t u → StandsSame u x → StandsTold side t x
told_still side t u x a b = record { told = side_still side u x b ∙ a.told; rest = side_still (other side) u x b ∙ a.rest; far = b.far ∙ a.far }

same_still : (t u x : StreamState) → StandsSame t u → StandsSame u x → StandsSame t x
same_still t u x a b = record { near_side = b.near_side ∙ a.near_side; far_side = b.far_side ∙ a.far_side; far = b.far ∙ a.far }

after_still : (s : Setting) (e : Event) (v : Visit) (c : Choice) (t u x : StreamState) → StandsAfter s e v c t u → StandsSame u x → StandsAfter s e v c t x
after_still s (event.Arrive k hold) v c t u x (a, b) h = (λ n. opened_still s v.node k c.reply t u x (a n) h, λ n. same_still t u x (b n) h)
after_still s (event.Cut k far hold) v c t u x (a, b) h = (λ n. told_still (far_or_near far) t u x (a n) h, λ n. same_still t u x (b n) h)
after_still s _ v c t u x a h = same_still t u x a h

told_side : (t : StreamState) (side : Side) → StandsTold side t (with_side told_closed t side)
told_side t Near = record { told = refl; rest = refl; far = refl }
told_side t Far = record { told = refl; rest = refl; far = refl }

-- ---- the change of an event

-- each stream stands so after it, where it was
abbrev EachAfter : Setting → Event → Visit → Choice → List StreamState → List StreamState → Type 0
EachAfter s e v c ts us = (place : ℕ) (t : StreamState) → slice_get ts place ≡ Some t → (u : StreamState) × (slice_get us place ≡ Some u) × StandsAfter s e v c t u

each_then : (s : Setting) (e : Event) (v : Visit) (c : Choice) (ts us xs : List StreamState) → EachAfter s e v c ts us → KeepsSides us xs → EachAfter s e v c ts xs
each_then s e v c ts us xs a b place t is =
    let u = a place t is in
    let x = b.each place u.0 u.1 in
    (x.0, x.1, after_still s e v c t u.0 x.0 u.2 x.2)

module _ (ready : StreamsAreReady) (s : Setting) (w : WorldState) (r : IsReached s w) (c : Choice) (v : Visit) where
  arrival_changes : (k : ℕ) (hold : Bool) → visit_of s w (event.Arrive k hold) ≡ Some v → VisitStep v c
      → EachAfter s (event.Arrive k hold) v c w.streams (arrived w v (s.arrives_as v.node k) c.reply (stream_numbered w.streams k)).streams
  arrival_changes k hold is step = by (opening_is s w k v is) where
    by : IsOpening s w k v → EachAfter s (event.Arrive k hold) v c w.streams (arrived w v (s.arrives_as v.node k) c.reply (stream_numbered w.streams k)).streams
    by o = subst (λ x. EachAfter s (event.Arrive k hold) v c w.streams (arrived w v (s.arrives_as v.node k) c.reply x).streams) (sym o.found) each where
      f : StreamState → Side → StreamState
      f = with_far (end_of v.node (s.arrives_as v.node k)) (arrival_by c.reply)

      talk : IsTalkNumbered w k o.talk
      talk = has_number w k o.talk o.found

      acts : (i : Input) → v.input ≡ i → Acts (begin v.seat.core v.now) i c.coming c.reply c.after
      acts i given = subst (λ (j : Input). Acts (begin v.seat.core v.now) j c.coming c.reply c.after) given step.steps.acts

      its_reply : Replied c.reply
      its_reply = replied (begin v.seat.core v.now) (s.arrives_as v.node k) c.reply (acts (input.Opened (s.arrives_as v.node k) (s.arrives_from k o.near.core.plan.address)) o.is.input_is).0 step.fed

      opens : (t : StreamState) (side : Side) → StandsOpened s v.node k c.reply t (f t side)
      opens t side = record { near_side = refl; far = refl; replied = its_reply }

      each : EachAfter s (event.Arrive k hold) v c w.streams (change_at_end w.streams o.talk.near f)
      each place t at = (at_end o.talk.near f t, place_changed w.streams o.talk.near f place t at, (opened, others)) where
        opened : t.number ≡ Some k → StandsOpened s v.node k c.reply t (at_end o.talk.near f t)
        opened n = at_end_has (StandsOpened s v.node k c.reply t) o.talk.near f t (λ none. absurd (none Near (ap (λ (x : StreamState). Some x.near) one))) (λ side has. opens t side) where
          one : t ≡ o.talk
          one = one_numbered ready s w r k place talk.place t o.talk at n talk.stands talk.number

        others : t.number ≢ Some k → StandsSame t (at_end o.talk.near f t)
        others n = at_end_has (StandsSame t) o.talk.near f t (λ none. same t) (λ side has. absurd (n (number side has))) where
          number : (side : Side) → end_at t side ≡ Some o.talk.near → t.number ≡ Some k
          number side has = ap (λ (x : StreamState). x.number) (one_talk o.talk.near w.streams place talk.place t o.talk (ready.apart s w r o.talk.near) at (has_it t o.talk.near side has) talk.stands (has_it o.talk o.talk.near Near refl)) ∙ talk.number

  cut_changes : (k : ℕ) (far hold : Bool) → visit_of s w (event.Cut k far hold) ≡ Some v
      → EachAfter s (event.Cut k far hold) v c w.streams (told w (reached_side w k (side_named far))).streams
  cut_changes k far hold is = by (cut_is w k (side_named far) v is) where
    by : IsReaching w k (side_named far) v (λ x. input.Closed x.at.number) → EachAfter s (event.Cut k far hold) v c w.streams (told w (reached_side w k (side_named far))).streams
    by o = subst (λ x. EachAfter s (event.Cut k far hold) v c w.streams (told w x).streams) (sym o.found) (by_side (reached_is w k (side_named far) o.reached o.found)) where
      e : StreamEnd
      e = o.reached.at

      by_side : IsReachedSide w k (side_named far) o.reached → EachAfter s (event.Cut k far hold) v c w.streams (change_at_end w.streams e (with_side told_closed))
      by_side h place t at = (at_end e (with_side told_closed) t, place_changed w.streams e (with_side told_closed) place t at, (closed, others)) where
        talk : IsTalkNumbered w k o.reached.talk
        talk = has_number w k o.reached.talk h.found

        closed : t.number ≡ Some k → StandsTold (far_or_near far) t (at_end e (with_side told_closed) t)
        closed n = at_end_has (StandsTold (far_or_near far) t) e (with_side told_closed) t (λ none. absurd (none (side_named far) its_end)) tells where
          one : t ≡ o.reached.talk
          one = one_numbered ready s w r k place talk.place t o.reached.talk at n talk.stands talk.number

          its_end : end_at t (side_named far) ≡ Some e
          its_end = ap (λ (x : StreamState). end_at x (side_named far)) one ∙ h.ends

          tells : (side : Side) → end_at t side ≡ Some e → StandsTold (far_or_near far) t (with_side told_closed t side)
          tells side has = subst (λ (x : Side). StandsTold (far_or_near far) t (with_side told_closed t x)) (sym own) (told_side t (far_or_near far)) where
            own : side ≡ far_or_near far
            own = one_side t e side (side_named far) (distinct ready s w r place t at) has its_end ∙ sides_same far

        others : t.number ≢ Some k → StandsSame t (at_end e (with_side told_closed) t)
        others n = at_end_has (StandsSame t) e (with_side told_closed) t (λ none. same t) (λ side has. absurd (n (number side has))) where
          number : (side : Side) → end_at t side ≡ Some e → t.number ≡ Some k
          number side has = ap (λ (x : StreamState). x.number) (one_talk e w.streams place talk.place t o.reached.talk (ready.apart s w r e) at (has_it t e side has) talk.stands (has_it o.reached.talk e (side_named far) h.ends)) ∙ talk.number

  -- a change that leaves each side
  kept_so : (e : Event) (us : List StreamState) → ((t u : StreamState) → StandsSame t u → StandsAfter s e v c t u) → KeepsSides w.streams us → EachAfter s e v c w.streams us
  kept_so e us so k place t is = let u = k.each place t is in (u.0, u.1, so t u.0 u.2)

  piece_keeps : (count : ℕ) (o : Option Reached) → KeepsSides w.streams (delivered w count o).streams
  piece_keeps count None = keeps_same w.streams
  piece_keeps count (Some x) = change_keeps w.streams x.at (with_delivered count) (delivered_leaves count)

  -- the streams after the change of a step, and after what the step makes
  made : (e : Event) (x : WorldState) (a : AgentState) → EachAfter s e v c w.streams x.streams → EachAfter s e v c w.streams (stepped x v c.after a).streams
  made e x a each = each_then s e v c w.streams x.streams (stepped x v c.after a).streams each (stepped_keeps x v c.after a)

  unchanged : (e : Event) → ((t u : StreamState) → StandsSame t u → StandsAfter s e v c t u) → EachAfter s e v c w.streams w.streams
  unchanged e so = kept_so e w.streams so (keeps_same w.streams)

  visit_changes : (e : Event) → visit_of s w e ≡ Some v → VisitStep v c → EachAfter s e v c w.streams (after_visit s w e v c).streams
  unfolding after_clock after_agent after_agent_call after_delivery after_arrival after_piece after_cut noted
  visit_changes (event.Clock node millis) is step = made (event.Clock node millis) w v.seat.agent (unchanged (event.Clock node millis) (λ t u h. h))
  visit_changes (event.Want node length longest peer) is step = absurd (none-some v is)
  visit_changes (event.Return node prefix peer) is step = absurd (none-some v is)
  visit_changes (event.Agent node hold) is step = made (event.Agent node hold) w (after_reply v.seat.agent c.reply) (unchanged (event.Agent node hold) (λ t u h. h))
  visit_changes (event.Api node asa call hold) is step = made (event.Api node asa call hold) w v.seat.agent (unchanged (event.Api node asa call hold) (λ t u h. h))
  visit_changes (event.Datagram index hold) is step = made (event.Datagram index hold) w v.seat.agent (unchanged (event.Datagram index hold) (λ t u h. h))
  visit_changes (event.Arrive k hold) is step =
      made (event.Arrive k hold) (arrived w v (s.arrives_as v.node k) c.reply (stream_numbered w.streams k)) v.seat.agent (arrival_changes k hold is step)
  visit_changes (event.Bytes k far count hold) is step =
      made (event.Bytes k far count hold) (delivered w count (reached_side w k (side_named far))) v.seat.agent
      (kept_so (event.Bytes k far count hold) (delivered w count (reached_side w k (side_named far))).streams (λ t u h. h) (piece_keeps count (reached_side w k (side_named far))))
  visit_changes (event.Cut k far hold) is step = made (event.Cut k far hold) (told w (reached_side w k (side_named far))) v.seat.agent (cut_changes k far hold is)
  visit_changes (event.Drain node max) is step = kept_so (event.Drain node max) (network.drained s w v.node max).streams (λ t u h. h) (drained_keeps s w v.node max)

-- ---- the drain behind it

behind_keeps : (b : Bool) (s : Setting) (x : WorldState) (node : ℕ) → KeepsSides x.streams (drained_behind b s x node).streams
behind_keeps true s x node = drained_keeps s x node event_drain
behind_keeps false s x node = keeps_same x.streams

each_stands : StreamsAreReady → (s : Setting) (w : WorldState) (e : Event) (c : Choice) (v : Visit) → IsReached s w → Occurs s w e c → visit_of s w e ≡ Some v
    → EachAfter s e v c w.streams (after_event s w e c).streams
each_stands ready s w e c v r o is =
    subst (λ (x : WorldState). EachAfter s e v c w.streams x.streams) (sym (after_is s w e c v is))
    (each_then s e v c w.streams (after_visit s w e v c).streams (drained_behind (drains e) s (after_visit s w e v c) v.node).streams
    (visit_changes ready s w r c v e is (comes_is s w e c v is o)) (behind_keeps (drains e) s (after_visit s w e v c) v.node))

-- ---- new streams

arrived_brings : (w : WorldState) (v : Visit) (number : ℕ) (r : Reply) (o : Option StreamState) → BringsNew w.streams (arrived w v number r o).streams
arrived_brings w v number r None = (keeps_same w.streams).brings
arrived_brings w v number r (Some t) = change_brings w.streams t.near (with_far (end_of v.node number) (arrival_by r))

delivered_brings : (w : WorldState) (count : ℕ) (o : Option Reached) → BringsNew w.streams (delivered w count o).streams
delivered_brings w count None = (keeps_same w.streams).brings
delivered_brings w count (Some x) = change_brings w.streams x.at (with_delivered count)

told_brings : (w : WorldState) (o : Option Reached) → BringsNew w.streams (told w o).streams
told_brings w None = (keeps_same w.streams).brings
told_brings w (Some x) = change_brings w.streams x.at (with_side told_closed)

step_brings : (w x : WorldState) (v : Visit) (core : NodeState) (a : AgentState) → BringsNew w.streams x.streams → BringsNew w.streams (stepped x v core a).streams
step_brings w x v core a b = new_then w.streams x.streams (stepped x v core a).streams b (stepped_keeps x v core a)

visit_brings : (s : Setting) (w : WorldState) (e : Event) (v : Visit) (c : Choice) → BringsNew w.streams (after_visit s w e v c).streams
unfolding after_clock after_agent after_agent_call after_delivery after_arrival after_piece after_cut noted
visit_brings s w (event.Clock node millis) v c = step_brings w w v c.after v.seat.agent (keeps_same w.streams).brings
visit_brings s w (event.Want node length longest peer) v c = (keeps_same w.streams).brings
visit_brings s w (event.Return node prefix peer) v c = (keeps_same w.streams).brings
visit_brings s w (event.Agent node hold) v c = step_brings w w v c.after (after_reply v.seat.agent c.reply) (keeps_same w.streams).brings
visit_brings s w (event.Api node asa call hold) v c = step_brings w w v c.after v.seat.agent (keeps_same w.streams).brings
visit_brings s w (event.Datagram index hold) v c = step_brings w w v c.after v.seat.agent (keeps_same w.streams).brings
visit_brings s w (event.Arrive k hold) v c =
    step_brings w (arrived w v (s.arrives_as v.node k) c.reply (stream_numbered w.streams k)) v c.after v.seat.agent
    (arrived_brings w v (s.arrives_as v.node k) c.reply (stream_numbered w.streams k))
visit_brings s w (event.Bytes k far count hold) v c =
    step_brings w (delivered w count (reached_side w k (side_named far))) v c.after v.seat.agent (delivered_brings w count (reached_side w k (side_named far)))
visit_brings s w (event.Cut k far hold) v c =
    step_brings w (told w (reached_side w k (side_named far))) v c.after v.seat.agent (told_brings w (reached_side w k (side_named far)))
visit_brings s w (event.Drain node max) v c = (drained_keeps s w v.node max).brings

one_streams : (w x : WorldState) → OneAgent w x → x.streams ≡ w.streams
one_streams w x o = ap (λ (y : WorldState). y.streams) o.after

stepless : (s : Setting) (w : WorldState) (e : Event) (c : Choice) → visit_of s w e ≡ None → (after_event s w e c).streams ≡ w.streams
stepless s w e c is = subst (λ (x : WorldState). x.streams ≡ w.streams) (sym (none_is s w e c is)) (none_one s w e (λ x. x.streams ≡ w.streams) refl (one_streams w))

event_brings : (s : Setting) (w : WorldState) (e : Event) (c : Choice) → BringsNew w.streams (after_event s w e c).streams
event_brings s w e c = by (visit_of s w e) refl where
  by : (o : Option Visit) → visit_of s w e ≡ o → BringsNew w.streams (after_event s w e c).streams
  by None is = subst (BringsNew w.streams) (sym (stepless s w e c is)) (keeps_same w.streams).brings
  by (Some v) is =
      subst (λ (x : WorldState). BringsNew w.streams x.streams) (sym (after_is s w e c v is))
      (new_then w.streams (after_visit s w e v c).streams (drained_behind (drains e) s (after_visit s w e v c) v.node).streams (visit_brings s w e v c)
      (behind_keeps (drains e) s (after_visit s w e v c) v.node))

pub sides_stand_so : StreamsAreReady → SidesStandSo
sides_stand_so ready = record {
  each = λ s w e c v r o is. each_stands ready s w e c v r o is;
  new = λ s w e c place u past is. (event_brings s w e c).new place u past is;
  stepless = stepless;
}
