-- What the code remembers stands for the network after an event, a settling and a restart.
use Rattle.std.proofs.Common.{◌≡◌, ◌≢◌, refl, sym, ap, ◌∙◌, subst, ℕ, ◌-◌, ◌≤◌, Bool, true, false, cond, inl, inr, ◌⊎◌, List, [], ◌∷◌, ◌++◌, filter, length, take, slice_get, slice_set, Contains, Option, None, Some, option_to_list}
use Rattle.std.proofs.lemmas.Bool.{true≢false, false≢true}
use Rattle.std.proofs.lemmas.Option.{none-some, same_Some}
use Rattle.grasp_agent.specs.Kept.{IsKept}
use Rattle.grasp_agent.specs.Reopening.{retired}
use Rattle.grasp_agent.specs.Replies.{after_reply}
use Rattle.grasp_agent.specs.States.{AgentState, is_returning, unsent_of}
use Rattle.grasp_agent.specs.declared.back.Return.{Return}
use Rattle.grasp_agent.specs.declared.duty.Duty.{Duty}
use Rattle.grasp_agent.specs.declared.duty.Duty.TheVariants as duty
use Rattle.grasp_laws_agent.proofs.LawMoves.{moves_are_made}
use Rattle.grasp_laws_agent.proofs.LawStays.{nothing_else_moves}
use Rattle.grasp_laws_agent.specs.Moves as move
use Rattle.grasp_laws_agent.specs.Moves.{Move, IsNext, Happens, Effect, NothingMoves}
use Rattle.grasp_laws_delivery.proofs.AfterSteps.{streams_before, streams_stepped}
use Rattle.grasp_laws_delivery.proofs.Came.Inputs.{IsOpening, agent_visit_is, clock_visit_is, cut_is, datagram_visit_is, opening_is, piece_is}
use Rattle.grasp_laws_delivery.proofs.Holding.{IsStep, held_reached}
use Rattle.grasp_laws_delivery.proofs.OnePlace.{Placed, has_it, numbered_place, one_talk}
use Rattle.grasp_laws_delivery.proofs.Worlds.{reached_in_order}
use Rattle.grasp_laws_delivery.specs.Ready.{FarWaits}
use Rattle.grasp_laws_negotiation.proofs.Events.{Premade, harmless_premade, opened_premade}
use Rattle.grasp_laws_negotiation.proofs.Harmless.{Harmless, delivered_harmless, handed_harmless, same_talks, told_harmless}
use Rattle.grasp_laws_negotiation.proofs.Steps.{every_at}
use Rattle.grasp_laws_network.proofs.Here.{visits_are_here}
use Rattle.grasp_laws_network.proofs.Going.{reached_more, restarted_reached}
use Rattle.grasp_laws_network.proofs.Others.{put_elsewhere}
use Rattle.grasp_laws_network.proofs.Restarted.{Restarting, restarting_is}
use Rattle.grasp_laws_network.proofs.SameLives.{visit_lives}
use Rattle.grasp_laws_network.proofs.Settled.{Settling, settling_is}
use Rattle.grasp_laws_network.proofs.Staying.{put_here}
use Rattle.grasp_laws_network.proofs.Telling.{none_tells}
use Rattle.grasp_laws_network.specs.Keeping.{IsHere}
use Rattle.grasp_laws_network.specs.Telling.{Tells}
use Rattle.grasp_laws_node_stories.specs.Acceptances.{AcceptancesAreCalls, acceptances_of, accepted_on, accepts_on, was_done}
use Rattle.grasp_laws_node_stories.specs.Stories.{OpensIt}
use Rattle.grasp_laws_prefixes.proofs.AgentSteps.{AgentStep}
use Rattle.grasp_laws_prefixes.proofs.Listing.{either_in, none_in}
use Rattle.grasp_laws_prefixes.proofs.OwnSessions.{handle_made}
use Rattle.grasp_laws_prefixes.proofs.OwnSteps.{IsCall}
use Rattle.grasp_laws_prefixes.proofs.Places.{step_stays}
use Rattle.grasp_laws_prefixes.proofs.QuietSteps.{IsOthersStep, drains_go_on, others_go_on}
use Rattle.grasp_laws_prefixes.specs.Grounds.{Grounds}
use Rattle.grasp_model_network.proofs.Facts.{agent_given}
use Rattle.grasp_model_network.specs.EventSteps.{after_agent, agent_input, agent_visit, datagram_visit}
use Rattle.grasp_model_network.specs.Events.{Occurs, after_by, after_event, after_none, after_visit, drained_behind, drains, visit_of}
use Rattle.grasp_model_network.specs.Notes.{noted}
use Rattle.grasp_model_network.specs.Offers.{offers_after}
use Rattle.grasp_model_network.specs.Restarting.{MayRestart, after_restart}
use Rattle.grasp_model_network.specs.Runs.{IsReached, first_world, world_of}
use Rattle.grasp_model_network.specs.Sending as network
use Rattle.grasp_model_network.specs.Sending.{drained_at, drained_from, event_drain, gained, seat_with, stepped}
use Rattle.grasp_model_network.specs.Setting.{Setting, numbered}
use Rattle.grasp_model_network.specs.Settling.{IsDead, after_settle}
use Rattle.grasp_model_network.specs.StreamChanges.{arrival_by, arrived, reached_side, side_named}
use Rattle.grasp_model_network.specs.Streams.{StreamState, end_at, next_bytes}
use Rattle.grasp_model_network.specs.Visits.{Choice, MayCome, Visit, VisitStep}
use Rattle.grasp_model_network.specs.World.{Seat, WorldState, member_of, present_life, seat_at, with_seat}
use Rattle.grasp_model_network.specs.declared.event.Event.{Event}
use Rattle.grasp_model_network.specs.declared.plan.WorldPlan.{WorldPlan}
use Rattle.grasp_model_network.specs.declared.event.Event.TheVariants as event
use Rattle.grasp_model_node.specs.Begin.{begin}
use Rattle.grasp_model_node.specs.BoundedNodes.{IsBoundedNode}
use Rattle.grasp_model_node.specs.Draining.{after_drain, closes}
use Rattle.grasp_model_node.specs.Node.{NodeState}
use Rattle.grasp_model_node.specs.Queue.{encoding}
use Rattle.grasp_model_node.specs.Step.{NodeStep}
use Rattle.grasp_pool.specs.declared.image.PoolImage.{PoolImage}
use Rattle.grasp_session.specs.Messages.{Near, Side, other}
use Rattle.grasp_session.specs.Runs.{WasMade}
use Rattle.grasp_session.specs.Sessions.{SessionState, Sessions, session_at, stream_of}
use Rattle.grasp_types.specs.Prefix.{AddressBlock as Prefix}
use Rattle.grasp_types.specs.declared.call.Call.{Call}
use Rattle.grasp_types.specs.declared.call.Call.TheVariants as call
use Rattle.grasp_types.specs.declared.message.Verdict.TheVariants as verdict
use Rattle.grasp_types.specs.declared.reply.Reply.{Reply}
use Rattle.grasp_types.specs.declared.session.Handle.{Handle}
use Rattle.grasp_types.specs.declared.traffic.Input.{Input}
use Rattle.grasp_types.specs.declared.traffic.Input.TheVariants as input
use Rattle.grasp_simulator.specs.Remembering.{AcceptedStand, HasNoted, OffersStand, Remembers, accepted_by, accepted_noted, last_note, notes_by, offers_noted}
use Rattle.grasp_simulator.specs.Restarts.{stays_noted}
use Rattle.grasp_simulator.specs.declared.notes.Notes.{Notes}
use Rattle.grasp_simulator.specs.declared.notes.OfferNote.{OfferNote}
use Rattle.grasp_simulator.specs.declared.stream.LifeEnd.{LifeEnd}
use Rattle.grasp_simulator.proofs.Accepted.{AreOfSessions, ends_in, harmless_accepted, step_accepted}
use Rattle.grasp_simulator.proofs.NotedOffers.{quiet_noted, restarted_noted, settled_noted, step_noted, told_noted}

-- ---- where a return is to be requested, nothing is decided

is_sent : (b : Option Return) (p : Prefix) → unsent_of b ≡ Some p → is_returning b ≡ true
is_sent None p e = absurd (none-some p e)
is_sent (Some z) p e = by_session z.session e where
  by_session : (o : Option Handle) → unsent_of (Some (record z { session = o })) ≡ Some p → is_returning (Some (record z { session = o })) ≡ true
  by_session None f = refl
  by_session (Some h) f = absurd (none-some p f)

none_decided : (a : AgentState) (r : Reply) (p : Prefix) → IsKept a → unsent_of a.back ≡ Some p → a.act ≡ None → (after_reply a r).act ≡ None
none_decided a r p kept unsent none = by_move (nothing_else_moves a r) where
  no_duty : (d : Duty) → IsNext a d → ⊥
  no_duty d n = true≢false (sym (is_sent a.back p unsent) ∙ n.sent)

  idle : (m : Move) → Happens a r m → Effect a m (after_reply a r) → (after_reply a r).act ≡ None
  idle (move.comes_in h) is e = e.3 ∙ none
  idle (move.starts h) is e = e.3 ∙ none
  idle (move.is_refused x) is e = e.3 ∙ none
  idle (move.considers h o) is e = absurd (no_duty (duty.Want h) is.0)
  idle (move.finishes h o) is e = e.3 ∙ none
  idle (move.hands h) is e = e.3 ∙ none
  idle (move.is_unsent x) is e = e.2 ∙ none
  idle (move.hears h o) is e = e.2 ∙ none
  idle (move.is_made c) is e = e.3
  idle (move.is_dropped c) is e = e.2
  idle (move.gives place g o) is e = absurd (no_duty (duty.Give place g.handle) is.0)
  idle (move.leaves place g o) is e = e.2 ∙ none

  by_move : ((m : Move) × Happens a r m) ⊎ NothingMoves a (after_reply a r) → (after_reply a r).act ≡ None
  by_move (inl m) = idle m.0 m.1 (moves_are_made a r m.0 kept m.1)
  by_move (inr n) = n.act ∙ none

-- ---- the sessions in which a call accepts

made_at : (z : Sessions) (h : Handle) (o : Option SessionState) → session_at z h ≡ o → (stream : ℕ) → Contains (option_to_list (stream_of o)) stream → (x : SessionState) × (WasMade z x × (x.stream ≡ stream))
made_at z h None is stream has = absurd (none_in stream has)
made_at z h (Some x) is stream has = (x, (handle_made z h x is, only x.stream stream has)) where
  only : (a b : ℕ) → Contains (a ∷ []) b → a ≡ b
  only a b m = by_case (either_in a [] b m) where
    by_case : (a ≡ b) ⊎ Contains [] b → a ≡ b
    by_case (inl e) = e
    by_case (inr none) = absurd (none_in b none)

call_accepts : (n : NodeState) (c : Call) → AreOfSessions n.sessions (accepts_on n c)
call_accepts n (call.EndNegotiate h verdict.Accept) stream has = made_at n.sessions h (session_at n.sessions h) refl stream has
call_accepts n _ stream has = absurd (none_in stream has)

input_accepts : (n : NodeState) (i : Input) (r : Reply) → AreOfSessions n.sessions (acceptances_of n i r)
input_accepts n (input.Api asa c) r stream has = by_done (was_done r) has where
  by_done : (b : Bool) → Contains (cond b (accepts_on n c) []) stream → (x : SessionState) × (WasMade n.sessions x × (x.stream ≡ stream))
  by_done true h = call_accepts n c stream h
  by_done false h = absurd (none_in stream h)
input_accepts n _ r stream has = absurd (none_in stream has)

-- ---- which acceptances an event notes

no_more : (ends : List LifeEnd) → ends ++ [] ≡ ends
no_more [] = refl
no_more (e ∷ ends) = ap (λ (l : List LifeEnd). e ∷ l) (no_more ends)

no_notes : (notes : List OfferNote) → notes ++ [] ≡ notes
no_notes [] = refl
no_notes (n ∷ notes) = ap (λ (l : List OfferNote). n ∷ l) (no_notes notes)

quiet_of : (ends : List LifeEnd) (v : Visit) (i : Input) (r : Reply) → v.input ≡ i → acceptances_of v.seat.core i r ≡ [] → ends ≡ ends ++ ends_in v.node (acceptances_of v.seat.core v.input r)
quiet_of ends v i r is none = sym (no_more ends) ∙ ap (λ (ns : List ℕ). ends ++ ends_in v.node ns) (sym (ap (λ j. acceptances_of v.seat.core j r) is ∙ none))

accepted_is : (s : Setting) (w : WorldState) (e : Event) (c : Choice) (v : Visit) → visit_of s w e ≡ Some v → IsStep e → (ends : List LifeEnd)
    → accepted_noted ends w e c ≡ ends ++ ends_in v.node (acceptances_of v.seat.core v.input c.reply)
unfolding datagram_visit
accepted_is s w (event.Clock node millis) c v is step ends = quiet_of ends v (input.Drain 0) c.reply (clock_visit_is (present_life w node) millis v (seat_at w (present_life w node)) is).input_is refl
accepted_is s w (event.Agent node hold) c v is step ends = ap (λ o. ends ++ accepted_by c o) is
accepted_is s w (event.Api node asa k hold) c v is step ends = ap (λ o. ends ++ accepted_by c o) is
accepted_is s w (event.Datagram index hold) c v is step ends =
    let d = datagram_visit_is w v (numbered w.datagrams index) is in quiet_of ends v (input.Datagram d.0.route.link d.0.route.from (encoding d.0.message)) c.reply d.1.input_is refl
accepted_is s w (event.Arrive stream hold) c v is step ends =
    let p = opening_is s w stream v is in quiet_of ends v (input.Opened (s.arrives_as v.node stream) (s.arrives_from stream p.near.core.plan.address)) c.reply p.is.input_is refl
accepted_is s w (event.Bytes stream far count hold) c v is step ends =
    let p = piece_is w stream (side_named far) count v is in quiet_of ends v (input.Bytes p.reached.at.number (next_bytes p.reached.talk (other (side_named far)) count)) c.reply p.is.input_is refl
accepted_is s w (event.Cut stream far hold) c v is step ends = let p = cut_is w stream (side_named far) v is in quiet_of ends v (input.Closed p.reached.at.number) c.reply p.is.input_is refl
accepted_is s w _ c v is step ends = absurd step

-- ---- the streams before what a step queues

module _ (l : Grounds) (s : Setting) (w : WorldState) (r : IsReached s w) where
  arrival_before : (k : ℕ) (v : Visit) (c : Choice) (hold : Bool) → visit_of s w (event.Arrive k hold) ≡ Some v → Premade w.streams (streams_before s w (event.Arrive k hold) v c) v.node v.input
  arrival_before k v c hold is = by_opening (opening_is s w k v is) where
    by_opening : IsOpening s w k v → Premade w.streams (streams_before s w (event.Arrive k hold) v c) v.node v.input
    by_opening p =
        let number = s.arrives_as v.node k in
        let at : Placed w.streams p.talk = numbered_place k w.streams p.talk p.found in
        subst (λ (z : Option StreamState). Premade w.streams (arrived w v number c.reply z).streams v.node v.input) (sym p.found)
        (opened_premade w.streams v.node v.input p.talk.near number (arrival_by c.reply) (subst (λ z. OpensIt z number) (sym p.is.input_is) refl)
        (λ place t stands side has. unopened place t stands side p has at)) where
          unopened : (place : ℕ) (t : StreamState) → slice_get w.streams place ≡ Some t → (side : Side) → (p : IsOpening s w k v) → end_at t side ≡ Some p.talk.near → Placed w.streams p.talk → t.far ≡ None
          unopened place t stands side p has at =
              let one : t ≡ p.talk = one_talk p.talk.near w.streams place at.place t p.talk (l.ready.apart s w r p.talk.near) stands (has_it t p.talk.near side has) at.stands (has_it p.talk p.talk.near Near refl) in
              ap (λ (x : StreamState). x.far) one ∙ every_at FarWaits w.streams at.place p.talk (l.ready.waits s w r) at.stands p.waiting

  quiet_before : (v : Visit) (us : List StreamState) → Harmless w.streams us → Premade w.streams us v.node v.input
  quiet_before v us h = harmless_premade w.streams us v.node v.input h

  step_before : (e : Event) (v : Visit) (c : Choice) → visit_of s w e ≡ Some v → IsStep e → Premade w.streams (streams_before s w e v c) v.node v.input
  step_before (event.Want node length longest peer) v c is step = absurd step
  step_before (event.Return node prefix peer) v c is step = absurd step
  step_before (event.Arrive stream hold) v c is step = arrival_before stream v c hold is
  step_before (event.Bytes stream far count hold) v c is step =
      quiet_before v (streams_before s w (event.Bytes stream far count hold) v c) (delivered_harmless w count (reached_side w stream (side_named far)))
  step_before (event.Cut stream far hold) v c is step = quiet_before v (streams_before s w (event.Cut stream far hold) v c) (told_harmless w (reached_side w stream (side_named far)))
  step_before (event.Drain node max) v c is step = absurd step
  step_before _ v c is step = quiet_before v w.streams (same_talks w.streams)

-- ---- a drain

drained_by : (s : Setting) (w : WorldState) (node max : ℕ) (o : Option Seat) → Harmless w.streams (drained_at s w node max o).streams
drained_by s w node max None = same_talks w.streams
drained_by s w node max (Some seat) = from (begin seat.core seat.core.reading) where
  from : (m : NodeState) → Harmless w.streams (drained_from s w node seat m max).streams
  from m = handed_harmless s (with_seat w node (seat_with (after_drain m max) seat.agent)) node (take max m.queue) (closes m max)

drained_harmless : (s : Setting) (w : WorldState) (node max : ℕ) → Harmless w.streams (network.drained s w node max).streams
unfolding network.drained
drained_harmless s w node max = drained_by s w node max (seat_at w node)

-- ---- an event

-- the notes stand for a network, as offers and as acceptances
pub record NotesStand (offers : List OfferNote) (accepted : List LifeEnd) (w : WorldState) : Type 0 where
  pub offers_stand : OffersStand offers w
  pub accepted_stand : AcceptedStand accepted w.streams

module _ (l : Grounds) (accepts : AcceptancesAreCalls) (s : Setting) where
  drained_stand : (w : WorldState) (node max : ℕ) → IsReached s w → IsReached s (network.drained s w node max) → 1 ≤ node → (offers : List OfferNote) (accepted : List LifeEnd) → NotesStand offers accepted w
      → NotesStand offers accepted (network.drained s w node max)
  drained_stand w node max r q least offers accepted k = record {
    offers_stand = quiet_noted l s w (network.drained s w node max) r (drains_go_on l s w node max r least) (inl q) offers k.offers_stand;
    accepted_stand = harmless_accepted accepted w.streams (network.drained s w node max).streams (drained_harmless s w node max) k.accepted_stand;
  }

  behind_stand : (b : Bool) (w : WorldState) (node : ℕ) → IsReached s w → IsReached s (drained_behind b s w node) → 1 ≤ node → (offers : List OfferNote) (accepted : List LifeEnd) → NotesStand offers accepted w
      → NotesStand offers accepted (drained_behind b s w node)
  behind_stand true w node r q least offers accepted k = drained_stand w node event_drain r q least offers accepted k
  behind_stand false w node r q least offers accepted k = k

  -- ---- a step

  module _ (w : WorldState) (e : Event) (c : Choice) (v : Visit) (r : IsReached s w) (o : Occurs s w e c) (is : visit_of s w e ≡ Some v) where
    abbrev x : WorldState
    x = after_visit s w e v c

    at : IsHere w v
    at = visits_are_here s w e v is

    comes : VisitStep v c
    comes = subst (λ (z : Option Visit). MayCome z c) is o.comes

    there : IsReached s x
    there = held_reached s w e c v r o is

    sound : IsBoundedNode v.seat.core
    sound = ((reached_in_order l.ties s w r).sound v.node v.seat at.stands).0

    says : accepted_on (gained v.seat.core c.after) ≡ acceptances_of v.seat.core v.input c.reply
    says = accepts v.seat.core c.after v.now v.input c.coming c.reply sound comes.steps

    step_accepts : IsStep e → (ends : List LifeEnd) → AcceptedStand ends w.streams → AcceptedStand (accepted_noted ends w e c) x.streams
    step_accepts step ends k =
        subst (λ (all : List LifeEnd). AcceptedStand all x.streams) (ap (λ (ns : List ℕ). ends ++ ends_in v.node ns) says ∙ sym (accepted_is s w e c v is step ends))
        (step_accepted l.ready l.streams s w x r there v at.stands (streams_before s w e v c) (gained v.seat.core c.after) (streams_stepped s w e v c step) (step_before l s w r e v c is step) (step_stays l.ready s w r e v c is step)
        (subst (λ (ns : List ℕ). AreOfSessions v.seat.core.sessions ns) (sym says) (input_accepts v.seat.core v.input c.reply)) ends k)

    quiet_offers : IsOthersStep e → (offers : List OfferNote) → OffersStand offers w → OffersStand offers x
    quiet_offers others offers k = quiet_noted l s w x r (others_go_on l s w e c v r o is others) (inl there) offers k

  agent_call : (w : WorldState) (node : ℕ) (hold : Bool) (v : Visit) → visit_of s w (event.Agent node hold) ≡ Some v → v.input ≡ agent_input v.seat.agent
  unfolding agent_visit
  agent_call w node hold v is = agent_given (present_life w node) v (seat_at w (present_life w node)) is

  agent_node : (w : WorldState) (node : ℕ) (hold : Bool) (v : Visit) → visit_of s w (event.Agent node hold) ≡ Some v → v.node ≡ present_life w node
  unfolding agent_visit
  agent_node w node hold v is = (agent_visit_is (present_life w node) v (seat_at w (present_life w node)) is).1.node_is

  agent_seats : (w : WorldState) (v : Visit) (c : Choice) → (after_agent w v c).seats ≡ slice_set w.seats (v.node - 1) (seat_with c.after (after_reply v.seat.agent c.reply))
  unfolding after_agent noted stepped
  agent_seats w v c = refl

  agent_offers : (w : WorldState) (v : Visit) (c : Choice) → (after_agent w v c).offers ≡ offers_after (after_agent w v c).streams w v c.after (after_reply v.seat.agent c.reply)
  unfolding after_agent noted
  agent_offers w v c = refl

  agent_settled : (w : WorldState) (v : Visit) (c : Choice) → (after_agent w v c).settled ≡ w.settled
  unfolding after_agent noted stepped
  agent_settled w v c = refl

  -- an agent's own
  module _ (w : WorldState) (node : ℕ) (hold : Bool) (c : Choice) (v : Visit) (r : IsReached s w) (o : Occurs s w (event.Agent node hold) c) (is : visit_of s w (event.Agent node hold) ≡ Some v) where
    here : IsHere w v
    here = visits_are_here s w (event.Agent node hold) v is

    came : VisitStep v c
    came = subst (λ (z : Option Visit). MayCome z c) is o.comes

    called : NodeStep v.seat.core v.now (agent_input v.seat.agent) c.coming c.reply c.after
    called = subst (λ i. NodeStep v.seat.core v.now i c.coming c.reply c.after) (agent_call w node hold v is) came.steps

    abbrev new : Seat
    new = seat_with c.after (after_reply v.seat.agent c.reply)

    abbrev own_step : AgentStep w (after_agent w v c)
    own_step = record {
      visit = v;
      core = c.after;
      agent = after_reply v.seat.agent c.reply;
      here = here.stands;
      present = l.present s w (event.Agent node hold) v r o.fit is;
      there = ap (λ xs. numbered xs v.node) (agent_seats w v c) ∙ put_here w.seats v.node v.seat new here.stands;
      others = λ n apart. ap (λ xs. numbered xs n) (agent_seats w v c) ∙ put_elsewhere w.seats v.node n new here.member.least apart;
      offers = agent_offers w v c;
      settled = agent_settled w v c;
      lives = visit_lives s w (event.Agent node hold) v c;
      streams = step_stays l.ready s w r (event.Agent node hold) v c is tt;
      moves = l.move s w r v.node v.seat here.stands v.now c.coming c.reply c.after called;
      alone = λ p unsent none. none_decided v.seat.agent c.reply p (l.kept s w r v.node v.seat here.stands) unsent none;
    }

    abbrev own_call : IsCall w (after_agent w v c) own_step
    own_call = record { now = v.now; coming = c.coming; reply = c.reply; agent_is = refl; steps = called }

    own_member : member_of w v.node ≡ node
    own_member = ap (λ n. member_of w n) (agent_node w node hold v is) ∙ (l.lives s w r).own node o.fit

    agent_offers_stand : (offers : List OfferNote) → OffersStand offers w → OffersStand (offers_noted offers w (event.Agent node hold) c) (after_agent w v c)
    agent_offers_stand offers k =
        subst (λ (os : List OfferNote). OffersStand os (after_agent w v c)) (ap (λ z. offers ++ notes_by node c z) (sym is))
        (step_noted l s w (after_agent w v c) r (held_reached s w (event.Agent node hold) c v r o is) own_step own_call node own_member offers k)

  step_offers : (w : WorldState) (e : Event) (c : Choice) (v : Visit) → IsReached s w → Occurs s w e c → visit_of s w e ≡ Some v → IsStep e → (offers : List OfferNote) → OffersStand offers w
      → OffersStand (offers_noted offers w e c) (after_visit s w e v c)
  step_offers w (event.Clock node millis) c v r o is step offers k = quiet_offers w (event.Clock node millis) c v r o is tt offers k
  step_offers w (event.Agent node hold) c v r o is step offers k = agent_offers_stand w node hold c v r o is offers k
  step_offers w (event.Api node asa z hold) c v r o is step offers k = quiet_offers w (event.Api node asa z hold) c v r o is tt offers k
  step_offers w (event.Datagram index hold) c v r o is step offers k = quiet_offers w (event.Datagram index hold) c v r o is tt offers k
  step_offers w (event.Arrive stream hold) c v r o is step offers k = quiet_offers w (event.Arrive stream hold) c v r o is tt offers k
  step_offers w (event.Bytes stream far count hold) c v r o is step offers k = quiet_offers w (event.Bytes stream far count hold) c v r o is tt offers k
  step_offers w (event.Cut stream far hold) c v r o is step offers k = quiet_offers w (event.Cut stream far hold) c v r o is tt offers k
  step_offers w _ c v r o is step offers k = absurd step

  -- ---- all of it

  abbrev Then : WorldState → Event → Choice → List OfferNote → List LifeEnd → WorldState → Type 0
  Then w e c offers accepted y = NotesStand (offers_noted offers w e c) (accepted_noted accepted w e c) y

  after_step : (w : WorldState) (e : Event) (c : Choice) (v : Visit) → IsReached s w → (o : Occurs s w e c) → visit_of s w e ≡ Some v → IsStep e → IsReached s (drained_behind (drains e) s (after_visit s w e v c) v.node)
      → (offers : List OfferNote) (accepted : List LifeEnd) → NotesStand offers accepted w → Then w e c offers accepted (drained_behind (drains e) s (after_visit s w e v c) v.node)
  after_step w e c v r o is step q offers accepted k =
      behind_stand (drains e) (after_visit s w e v c) v.node (held_reached s w e c v r o is) q (visits_are_here s w e v is).member.least (offers_noted offers w e c) (accepted_noted accepted w e c)
      (record { offers_stand = step_offers w e c v r o is step offers k.offers_stand; accepted_stand = step_accepts w e c v r o is step accepted k.accepted_stand })

  after_this : (w : WorldState) (e : Event) (c : Choice) (v : Visit) → IsReached s w → (o : Occurs s w e c) → visit_of s w e ≡ Some v → IsReached s (drained_behind (drains e) s (after_visit s w e v c) v.node)
      → (offers : List OfferNote) (accepted : List LifeEnd) → NotesStand offers accepted w → Then w e c offers accepted (drained_behind (drains e) s (after_visit s w e v c) v.node)
  after_this w (event.Want node length longest peer) c v r o is q offers accepted k = absurd (none-some v is)
  after_this w (event.Return node prefix peer) c v r o is q offers accepted k = absurd (none-some v is)
  after_this w (event.Drain node max) c v r o is q offers accepted k = drained_stand w v.node max r q (visits_are_here s w (event.Drain node max) v is).member.least offers accepted k
  after_this w (event.Clock node millis) c v r o is q offers accepted k = after_step w (event.Clock node millis) c v r o is tt q offers accepted k
  after_this w (event.Agent node hold) c v r o is q offers accepted k = after_step w (event.Agent node hold) c v r o is tt q offers accepted k
  after_this w (event.Api node asa z hold) c v r o is q offers accepted k = after_step w (event.Api node asa z hold) c v r o is tt q offers accepted k
  after_this w (event.Datagram index hold) c v r o is q offers accepted k = after_step w (event.Datagram index hold) c v r o is tt q offers accepted k
  after_this w (event.Arrive stream hold) c v r o is q offers accepted k = after_step w (event.Arrive stream hold) c v r o is tt q offers accepted k
  after_this w (event.Bytes stream far count hold) c v r o is q offers accepted k = after_step w (event.Bytes stream far count hold) c v r o is tt q offers accepted k
  after_this w (event.Cut stream far hold) c v r o is q offers accepted k = after_step w (event.Cut stream far hold) c v r o is tt q offers accepted k

  -- an event without a step notes nothing
  none_offers : (w : WorldState) (e : Event) (c : Choice) → visit_of s w e ≡ None → (offers : List OfferNote) → offers_noted offers w e c ≡ offers
  none_offers w (event.Agent node hold) c none offers = ap (λ o. offers ++ notes_by node c o) none ∙ no_notes offers
  none_offers w _ c none offers = refl

  none_accepted : (w : WorldState) (e : Event) (c : Choice) → visit_of s w e ≡ None → (ends : List LifeEnd) → accepted_noted ends w e c ≡ ends
  none_accepted w (event.Agent node hold) c none ends = ap (λ o. ends ++ accepted_by c o) none ∙ no_more ends
  none_accepted w (event.Api node asa z hold) c none ends = ap (λ o. ends ++ accepted_by c o) none ∙ no_more ends
  none_accepted w _ c none ends = refl

  after_nothing : (w : WorldState) (e : Event) → IsReached s w → (after_none s w e ≡ w) ⊎ Tells s w e (after_none s w e) → (offers : List OfferNote) (accepted : List LifeEnd) → NotesStand offers accepted w
      → NotesStand offers accepted (after_none s w e)
  after_nothing w e r (inl same) offers accepted k = subst (λ (y : WorldState). NotesStand offers accepted y) (sym same) k
  after_nothing w e r (inr t) offers accepted k = record {
    offers_stand = told_noted l s w (after_none s w e) e r t offers k.offers_stand;
    accepted_stand = subst (λ (ts : List StreamState). AcceptedStand accepted ts) (sym (ap (λ (y : WorldState). y.streams) t.after)) k.accepted_stand;
  }

  event_stands : (w : WorldState) (e : Event) (c : Choice) → IsReached s w → Occurs s w e c → (offers : List OfferNote) (accepted : List LifeEnd) → NotesStand offers accepted w
      → NotesStand (offers_noted offers w e c) (accepted_noted accepted w e c) (after_event s w e c)
  unfolding after_event
  event_stands w e c r o offers accepted k = by_visit (visit_of s w e) refl where
    by_visit : (z : Option Visit) → visit_of s w e ≡ z → Then w e c offers accepted (after_by s w e c (visit_of s w e))
    by_visit None is =
        subst (λ z. Then w e c offers accepted (after_by s w e c z)) (sym is)
        (subst (λ (os : List OfferNote). NotesStand os (accepted_noted accepted w e c) (after_none s w e)) (sym (none_offers w e c is offers))
        (subst (λ (ends : List LifeEnd). NotesStand offers ends (after_none s w e)) (sym (none_accepted w e c is accepted)) (after_nothing w e r (none_tells s w e o.fit) offers accepted k)))
    by_visit (Some v) is =
        subst (λ z. Then w e c offers accepted (after_by s w e c z)) (sym is)
        (after_this w e c v r o is (subst (λ z. IsReached s (after_by s w e c z)) is (reached_more s w e c r o)) offers accepted k)

  pub event_remembers : (w : WorldState) (e : Event) (c : Choice) → IsReached s w → Occurs s w e c → (before after : Notes) → HasNoted before after w e c → Remembers before w → Remembers after (after_event s w e c)
  event_remembers w e c r o before after h k =
      let n = event_stands w e c r o before.offers.items before.accepted (record { offers_stand = k.offers; accepted_stand = k.accepted }) in
      record {
        offers = subst (λ (os : List OfferNote). OffersStand os (after_event s w e c)) (sym h.offers) n.offers_stand;
        accepted = subst (λ (ends : List LifeEnd). AcceptedStand ends (after_event s w e c).streams) (sym h.accepted) n.accepted_stand;
      }

-- ---- a settling and a restart

pub settle_remembers : Grounds → (s : Setting) (w : WorldState) (node : ℕ) (p : Prefix) → IsReached s w → IsDead w node p → (notes : Notes) → Remembers notes w → Remembers notes (after_settle w node p)
settle_remembers l s w node p r d notes k =
    let t : Settling w node p (after_settle w node p) = settling_is w node p d in
    record {
      offers = settled_noted l s w (after_settle w node p) r node p t notes.offers.items k.offers;
      accepted = subst (λ (ts : List StreamState). AcceptedStand notes.accepted ts) (sym t.streams) k.accepted;
    }

told_accepted : (s : Setting) (w x : WorldState) (node : ℕ) (image : PoolImage) → Restarting s w node image x → Harmless w.streams x.streams
told_accepted s w x node image t = record {
  back = λ place u is. let b = t.were_told place u is in record { before = b.0; stands = b.1; like = record { near = b.2.same.near; far = b.2.same.far; said = b.2.same.said } };
  forth = λ place u is. let b = t.told place u is in record { after = b.0; stands = b.1; like = record { near = b.2.same.near; far = b.2.same.far; said = b.2.same.said } };
}

-- the agent of the life that ends is this
pub restart_remembers : Grounds → (s : Setting) (w : WorldState) (node : ℕ) (image : PoolImage) → IsReached s w → (m : MayRestart s w node image) → (seat : Seat) → seat_at w (present_life w node) ≡ Some seat → (before after : Notes)
    → after.offers.items ≡ filter (stays_noted node (retired seat.agent).pool) before.offers.items → after.accepted ≡ before.accepted → Remembers before w → Remembers after (after_restart s w node image)
restart_remembers l s w node image r m seat here before after offers accepted k =
    let x : WorldState = after_restart s w node image in
    let t : Restarting s w node image x = restarting_is s w node image m in
    let same : t.seat ≡ seat = same_Some t.seat seat (sym t.here ∙ here) in
    record {
      offers = subst (λ (os : List OfferNote). OffersStand os x) (ap (λ (z : Seat). filter (stays_noted node (retired z.agent).pool) before.offers.items) same ∙ sym offers)
          (restarted_noted l s w x r (restarted_reached s w node image r m) node image t before.offers.items k.offers);
      accepted = subst (λ (ends : List LifeEnd). AcceptedStand ends x.streams) (sym accepted) (harmless_accepted before.accepted w.streams x.streams (told_accepted s w x node image t) k.accepted);
    }

-- ---- the beginning

none_last : (node : ℕ) (q : Prefix) (note : OfferNote) → last_note node q [] None ≡ Some note → ⊥
unfolding last_note
none_last node q note is = none-some note is

no_acceptances : AcceptedStand [] []
no_acceptances = record { near = λ place t is. absurd (none-some t is); known = λ e even is. absurd (false≢true is) }

no_offers : (p : WorldPlan) → OffersStand [] (world_of p)
unfolding first_world
no_offers p = record { noted = λ o place listed on. absurd (none_in o listed); listed = λ node seat q note own here was last. absurd (none_last node q note last) }

-- where nothing is remembered, that stands for the first network of a plan
pub nothing_remembered : (p : WorldPlan) (notes : Notes) → notes.offers.items ≡ [] → notes.accepted ≡ [] → Remembers notes (world_of p)
unfolding first_world
nothing_remembered p notes offers accepted = record {
  offers = subst (λ (os : List OfferNote). OffersStand os (world_of p)) (sym offers) (no_offers p);
  accepted = subst (λ (ends : List LifeEnd). AcceptedStand ends []) (sym accepted) no_acceptances;
}
