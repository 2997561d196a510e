use Rattle.grasp_simulator.specs.declared.notes.OfferNote.{OfferNote}
use Rattle.grasp_model_network.specs.Plans.{IsNode}
use Rattle.grasp_simulator.specs.Remembering.{end_in, note_with, HasNoted}
use Rattle.grasp_laws_node_stories.specs.Acceptances.{acceptances_of}
use Rattle.grasp_simulator.specs.declared.seat.OwnStep.{OwnStep}
use Rattle.grasp_simulator.specs.declared.seat.BegunOn.{BegunOn}
use Rattle.grasp_simulator.specs.declared.notes.Notes.{Notes}
-- Calls of agents: the node's own agent of prefixes, and others.
use Rattle.std.proofs.Common.{◌≡◌, refl, sym, ap, ◌∙◌, subst, ℕ, ◌-◌, ◌++◌, Bool, true, false, not, Some, slice_index_or, Option, option_to_list, map, option_map, None, List, length}
use Rattle.std.specs.Vec.{with_item}
use Rattle.grasp_agent.specs.Calls.{next_call}
use Rattle.grasp_agent.specs.Replies.{after_reply}
use Rattle.grasp_types.specs.declared.call.Call.{Call}
use Rattle.grasp_types.specs.declared.reply.Reply.{Reply}
use Rattle.grasp_types.specs.declared.traffic.Input.TheVariants as input
use Rattle.grasp_model_network.specs.EventSteps.{after_agent_call, agent_input, agent_visit, replied, after_agent}
use Rattle.grasp_model_network.specs.Events.{drained_behind, visit_of, after_event}
use Rattle.grasp_model_network.specs.Notes.{noted}
use Rattle.grasp_model_network.specs.Offers.{offers_after, just_offered}
use Rattle.grasp_model_network.specs.Reports.{report_of}
use Rattle.grasp_model_network.specs.Runs.{IsReached}
use Rattle.grasp_model_network.specs.Sending.{seat_with, stepped}
use Rattle.grasp_model_network.specs.Setting.{Setting}
use Rattle.grasp_model_network.specs.Visits.{Visit, Choice, MayCome, VisitStep, is_starved}
use Rattle.grasp_model_network.specs.World.{Seat, WorldState, present_life, seat_at, last_life}
use Rattle.grasp_model_network.specs.declared.event.Event.{Event}
use Rattle.grasp_model_network.specs.declared.event.Event.TheVariants as event
use Rattle.grasp_model_network.specs.declared.report.Report.TheVariants as report
use Rattle.grasp_laws_delivery.specs.Ready.{StreamsAreReady}
use Rattle.grasp_simulator.specs.PlacesStand.{places_in}
use Rattle.grasp_simulator.specs.Seats.{SeatStands, Sitting, SeatMeets, AgentStepped, CallStepped, begun_on, OwnStepped}
use Rattle.grasp_simulator.specs.Sends.{SendsBehind}
use Rattle.grasp_simulator.specs.WorldStands.{WorldKeeps}
use Rattle.grasp_simulator.specs.WorldSteps.{Runs}
use Rattle.grasp_simulator.specs.declared.places.Places.{Places}
use Rattle.grasp_simulator.specs.declared.seat.Seat.{Seat as SeatCode}
use Rattle.grasp_simulator.specs.declared.world.World.{World}
use Rattle.grasp_simulator.proofs.Presence.{OwnSeat, own_seat, got_own, code_node}
use Rattle.grasp_simulator.proofs.InputsGo.{own_step}
use Rattle.grasp_simulator.proofs.Noting.{noted_keeps, notes_keep, offers_keep}
use Rattle.grasp_simulator.proofs.SeatSteps.{nothing_comes}
use Rattle.grasp_simulator.proofs.Turns.{quiet_reached, stepped_keeps, stepped_here}

-- ---- calls of other agents

abbrev called : WorldState → ℕ → Seat → ℕ → Call → Choice → WorldState
called w node seat asa call c = noted (stepped w (own_step node seat (input.Api asa call)) c.after seat.agent) (own_step node seat (input.Api asa call)) asa call c.reply

call_comes : (s : Setting) (w : WorldState) (member node asa : ℕ) (call : Call) (hold : Bool) (seat : Seat) (c : Choice) → present_life w member ≡ node → seat_at w node ≡ Some seat → VisitStep (own_step node seat (input.Api asa call)) c
    → MayCome (visit_of s w (event.Api member asa call hold)) c
call_comes s w member node asa call hold seat c present here steps = rw present (rw here steps)

call_after : (s : Setting) (w : WorldState) (member node asa : ℕ) (call : Call) (hold : Bool) (seat : Seat) (c : Choice) → present_life w member ≡ node → seat_at w node ≡ Some seat
    → after_event s w (event.Api member asa call hold) c ≡ drained_behind (not hold) s (called w node seat asa call c) node
unfolding after_event after_agent_call
call_after s w member node asa call hold seat c present here = rw present (rw here refl)

call_report : (s : Setting) (w : WorldState) (member node asa : ℕ) (call : Call) (hold : Bool) (seat : Seat) (c : Choice) → present_life w member ≡ node → seat_at w node ≡ Some seat
    → report_of s w (event.Api member asa call hold) c ≡ report.Reply c.reply
unfolding report_of
call_report s w member node asa call hold seat c present here = rw present (rw here refl)

call_count : (w : WorldState) (node : ℕ) (seat : Seat) (asa : ℕ) (call : Call) (c : Choice) → (called w node seat asa call c).byte_count ≡ w.byte_count
unfolding noted stepped
call_count w node seat asa call c = refl

call_talks : (w : WorldState) (node : ℕ) (seat : Seat) (asa : ℕ) (call : Call) (c : Choice) → (called w node seat asa call c).streams ≡ (stepped w (own_step node seat (input.Api asa call)) c.after seat.agent).streams
unfolding noted
call_talks w node seat asa call c = refl

call_here : (w : WorldState) (node : ℕ) (seat : Seat) (asa : ℕ) (call : Call) (c : Choice) → seat_at w node ≡ Some seat → seat_at (called w node seat asa call c) node ≡ Some (seat_with c.after seat.agent)
unfolding noted
call_here w node seat asa call c here = stepped_here w (own_step node seat (input.Api asa call)) c.after seat.agent here

call_lives : (w : WorldState) (node : ℕ) (seat : Seat) (asa : ℕ) (call : Call) (c : Choice) → (called w node seat asa call c).lives ≡ w.lives
unfolding noted stepped
call_lives w node seat asa call c = refl

-- where the call has accepted is noted
call_noted : (notes after : Notes) (w : WorldState) (member node asa : ℕ) (call : Call) (hold : Bool) (seat : Seat) (c : Choice) (accepted : Option ℕ) → present_life w member ≡ node → seat_at w node ≡ Some seat
    → option_to_list accepted ≡ acceptances_of seat.core (input.Api asa call) c.reply → after.offers.items ≡ notes.offers.items → after.accepted ≡ notes.accepted ++ map (end_in node) (option_to_list accepted)
    → HasNoted notes after w (event.Api member asa call hold) c
call_noted notes after w member node asa call hold seat c accepted present here is offers more = record {
  offers = offers;
  accepted = more ∙ (ap (λ (l : List ℕ). notes.accepted ++ map (end_in node) l) is ∙ sym (rw present (rw here refl)));
}

pub call_runs : (law : StreamsAreReady) (old new : World) (node asa : ℕ) (call : Call) (hold : Bool) (i : ℕ) (own changed : SeatCode) (places : Places) (notes : Notes) (r : Reply) (accepted : Option ℕ) → changed.life ≡ own.life
    → i ≡ node - 1 → own ≡ slice_index_or old.seats.items i own → ((x : Sitting) → SeatMeets own (input.Api asa call) x → CallStepped changed asa call x r accepted) → is_starved r ≡ false
    → places.given ≡ old.places.given ++ places_in own.life r → notes.offers.items ≡ old.notes.offers.items → notes.accepted ≡ old.notes.accepted ++ map (end_in own.life) (option_to_list accepted) → new.notes ≡ notes
    → SendsBehind (record old { seats = with_item old.seats i changed; places = places; notes = notes }) new node hold → Runs old new (event.Api node asa call hold) (report.Reply r)
call_runs law old new node asa call hold i own changed places notes r accepted still place got steps fed given offers more same sends s w may =
    let keeps : WorldKeeps old s w = may.goes.keeps in
    let is_node : IsNode (length old.seats.items) node = code_node old s w node keeps may.fit.0 in
    let found : OwnSeat w node own = own_seat old s w node i own keeps is_node place got in
    let life : ℕ = present_life w node in
    let seat : Seat = found.seat in
    let x : Sitting = record { seat = seat; coming = nothing_comes } in
    let h : CallStepped changed asa call x r accepted = steps x (record { stands = found.stands; comes = tt }) in
    let c : Choice = record { coming = nothing_comes; reply = r; after = h.step.after } in
    let v : Visit = own_step life seat (input.Api asa call) in
    let step : VisitStep v c = record { steps = h.step.steps; fed = fed } in
    let f : Event = event.Api node asa call true in
    let next : WorldState = called w life seat asa call c in
    let reached : IsReached s next = subst (IsReached s) (call_after s w node life asa call true seat c refl found.here)
    (quiet_reached s w f c old (record { goes = may.goes; fit = may.fit }) (call_comes s w node life asa call true seat c refl found.here step)
    (ap (λ (y : WorldState). y.byte_count) (call_after s w node life asa call true seat c refl found.here) ∙ call_count w life seat asa call c)) in
    let mid : World = record old { seats = with_item old.seats i changed } in
    let kept : WorldKeeps (record mid { places = places; notes = notes }) s next =
    notes_keep (record mid { places = places }) s next notes (noted_keeps mid places s (stepped w v h.step.after seat.agent) v asa call r
    (stepped_keeps old s w keeps life i own changed (got_own old node i own is_node place got) still (sym found.life) (seat_with h.step.after seat.agent) h.step.stands law next v h.step.after seat.agent refl refl reached
    (call_talks w life seat asa call c)) (given ∙ ap (λ (n : ℕ). old.places.given ++ places_in n r) found.life)) in
    let again : present_life next node ≡ life = ap (λ (ks : List ℕ). last_life 1 ks node 1) (call_lives w life seat asa call c) in
    let sent : WorldKeeps new s (drained_behind (not hold) s next life) =
    subst (λ (n : ℕ). WorldKeeps new s (drained_behind (not hold) s next n)) again
    (sends s next (seat_with h.step.after seat.agent) (record { reached = reached; keeps = kept }) (ap (seat_at next) again ∙ call_here w life seat asa call c found.here)) in
    record {
      choice = c;
      comes = call_comes s w node life asa call hold seat c refl found.here step;
      report_is = sym (call_report s w node life asa call hold seat c refl found.here);
      keeps = subst (WorldKeeps new s) (sym (call_after s w node life asa call hold seat c refl found.here)) sent;
      noted = call_noted old.notes new.notes w node life asa call hold seat c accepted refl found.here h.accepts (ap (λ (n : Notes). n.offers.items) same ∙ offers)
          (ap (λ (n : Notes). n.accepted) same ∙ (more ∙ ap (λ (n : ℕ). old.notes.accepted ++ map (end_in n) (option_to_list accepted)) found.life));
    }

-- ---- the node's own agent

abbrev own_call : ℕ → Seat → Visit
own_call node seat = own_step node seat (agent_input seat.agent)

abbrev answered : WorldState → ℕ → Seat → Choice → WorldState
answered w node seat c = replied w (own_call node seat) c (after_reply seat.agent c.reply)

abbrev own_noted : WorldState → ℕ → Seat → Choice → WorldState
own_noted w node seat c = noted (stepped w (own_call node seat) c.after (after_reply seat.agent c.reply)) (own_call node seat) seat.agent.asa (next_call seat.agent) c.reply

agent_comes : (s : Setting) (w : WorldState) (member node : ℕ) (hold : Bool) (seat : Seat) (c : Choice) → present_life w member ≡ node → seat_at w node ≡ Some seat → VisitStep (own_call node seat) c
    → MayCome (visit_of s w (event.Agent member hold)) c
unfolding agent_visit
agent_comes s w member node hold seat c present here steps = rw present (rw here steps)

agent_after : (s : Setting) (w : WorldState) (member node : ℕ) (hold : Bool) (seat : Seat) (c : Choice) → present_life w member ≡ node → seat_at w node ≡ Some seat
    → after_event s w (event.Agent member hold) c ≡ drained_behind (not hold) s (answered w node seat c) node
unfolding after_event agent_visit after_agent
agent_after s w member node hold seat c present here = rw present (rw here refl)

agent_report : (s : Setting) (w : WorldState) (member node : ℕ) (hold : Bool) (seat : Seat) (c : Choice) → present_life w member ≡ node → seat_at w node ≡ Some seat
    → report_of s w (event.Agent member hold) c ≡ report.Agent (next_call seat.agent) c.reply
unfolding report_of agent_visit
agent_report s w member node hold seat c present here = rw present (rw here refl)

agent_count : (w : WorldState) (node : ℕ) (seat : Seat) (c : Choice) → (answered w node seat c).byte_count ≡ w.byte_count
unfolding noted stepped
agent_count w node seat c = refl

agent_talks : (w : WorldState) (node : ℕ) (seat : Seat) (c : Choice) → (answered w node seat c).streams ≡ (stepped w (own_call node seat) c.after (after_reply seat.agent c.reply)).streams
unfolding noted
agent_talks w node seat c = refl

agent_here : (w : WorldState) (node : ℕ) (seat : Seat) (c : Choice) → seat_at w node ≡ Some seat → seat_at (answered w node seat c) node ≡ Some (seat_with c.after (after_reply seat.agent c.reply))
unfolding noted
agent_here w node seat c here = stepped_here w (own_call node seat) c.after (after_reply seat.agent c.reply) here

agent_lives : (w : WorldState) (node : ℕ) (seat : Seat) (c : Choice) → (answered w node seat c).lives ≡ w.lives
unfolding noted stepped
agent_lives w node seat c = refl

map_list : {A B C : Type 0} (f : A → B) (g : B → C) (o : Option A) → option_to_list (option_map g (option_map f o)) ≡ option_to_list (option_map (λ x. g (f x)) o)
map_list f g None = refl
map_list f g (Some x) = refl

-- what the agent has just begun to offer is noted, and where it has accepted
agent_noted : (notes after : Notes) (w : WorldState) (member node : ℕ) (hold : Bool) (seat : Seat) (c : Choice) (begun : Option BegunOn) (accepted : Option ℕ) → present_life w member ≡ node → seat_at w node ≡ Some seat
    → begun ≡ option_map (begun_on c.after) (just_offered seat.agent (after_reply seat.agent c.reply)) → option_to_list accepted ≡ acceptances_of seat.core (agent_input seat.agent) c.reply
    → after.offers.items ≡ notes.offers.items ++ option_to_list (option_map (note_with member node) begun) → after.accepted ≡ notes.accepted ++ map (end_in node) (option_to_list accepted)
    → HasNoted notes after w (event.Agent member hold) c
unfolding agent_visit
agent_noted notes after w member node hold seat c begun accepted present here is accepts offers more = record {
  offers = offers
      ∙ (ap (λ (o : Option BegunOn). notes.offers.items ++ option_to_list (option_map (note_with member node) o)) is
      ∙ (ap (λ (l : List OfferNote). notes.offers.items ++ l) (map_list (begun_on c.after) (note_with member node) (just_offered seat.agent (after_reply seat.agent c.reply)))
      ∙ sym (rw present (rw here refl))));
  accepted = more ∙ (ap (λ (l : List ℕ). notes.accepted ++ map (end_in node) l) accepts ∙ sym (rw present (rw here refl)));
}

pub agent_runs : (law : StreamsAreReady) (old new : World) (node : ℕ) (hold : Bool) (i : ℕ) (own changed : SeatCode) (places : Places) (notes : Notes) (made : OwnStep) → changed.life ≡ own.life → i ≡ node - 1
    → own ≡ slice_index_or old.seats.items i own → ((x : Sitting) → SeatStands own x.seat → OwnStepped changed x made) → places.given ≡ old.places.given ++ places_in own.life made.reply
    → notes.offers.items ≡ old.notes.offers.items ++ option_to_list (option_map (note_with node own.life) made.begun) → notes.accepted ≡ old.notes.accepted ++ map (end_in own.life) (option_to_list made.accepted)
    → new.notes ≡ notes → SendsBehind (record old { seats = with_item old.seats i changed; places = places; notes = notes }) new node hold → Runs old new (event.Agent node hold) (report.Agent made.call made.reply)
agent_runs law old new node hold i own changed places notes made still place got steps given offers more same sends s w may =
    let keeps : WorldKeeps old s w = may.goes.keeps in
    let is_node : IsNode (length old.seats.items) node = code_node old s w node keeps may.fit in
    let found : OwnSeat w node own = own_seat old s w node i own keeps is_node place got in
    let life : ℕ = present_life w node in
    let seat : Seat = found.seat in
    let r : Reply = made.reply in
    let x : Sitting = record { seat = seat; coming = nothing_comes } in
    let o : OwnStepped changed x made = steps x found.stands in
    let h : AgentStepped changed x made.call r = o.step in
    let c : Choice = record { coming = nothing_comes; reply = r; after = h.after } in
    let v : Visit = own_call life seat in
    let step : VisitStep v c = record { steps = h.steps; fed = h.fed } in
    let f : Event = event.Agent node true in
    let next : WorldState = answered w life seat c in
    let reached : IsReached s next = subst (IsReached s) (agent_after s w node life true seat c refl found.here)
    (quiet_reached s w f c old (record { goes = may.goes; fit = may.fit }) (agent_comes s w node life true seat c refl found.here step)
    (ap (λ (y : WorldState). y.byte_count) (agent_after s w node life true seat c refl found.here) ∙ agent_count w life seat c)) in
    let mid : World = record old { seats = with_item old.seats i changed } in
    let then : Seat = seat_with h.after (after_reply seat.agent r) in
    let kept : WorldKeeps (record mid { places = places; notes = notes }) s next =
    notes_keep (record mid { places = places }) s next notes
    (offers_keep (record mid { places = places }) s (own_noted w life seat c) (offers_after (stepped w v h.after (after_reply seat.agent r)).streams w v h.after (after_reply seat.agent r))
    (noted_keeps mid places s (stepped w v h.after (after_reply seat.agent r)) v seat.agent.asa (next_call seat.agent) r
    (stepped_keeps old s w keeps life i own changed (got_own old node i own is_node place got) still (sym found.life) then h.stands law next v h.after (after_reply seat.agent r) refl refl reached (agent_talks w life seat c))
    (given ∙ ap (λ (n : ℕ). old.places.given ++ places_in n r) found.life))) in
    let again : present_life next node ≡ life = ap (λ (ks : List ℕ). last_life 1 ks node 1) (agent_lives w life seat c) in
    let sent : WorldKeeps new s (drained_behind (not hold) s next life) =
    subst (λ (n : ℕ). WorldKeeps new s (drained_behind (not hold) s next n)) again
    (sends s next then (record { reached = reached; keeps = kept }) (ap (seat_at next) again ∙ agent_here w life seat c found.here)) in
    record {
      choice = c;
      comes = agent_comes s w node life hold seat c refl found.here step;
      report_is = ap (λ (k : Call). report.Agent k r) h.calls ∙ sym (agent_report s w node life hold seat c refl found.here);
      keeps = subst (WorldKeeps new s) (sym (agent_after s w node life hold seat c refl found.here)) sent;
      noted = agent_noted old.notes new.notes w node life hold seat c made.begun made.accepted refl found.here o.begun o.accepted
          (ap (λ (n : Notes). n.offers.items) same ∙ (offers ∙ ap (λ (n : ℕ). old.notes.offers.items ++ option_to_list (option_map (note_with node n) made.begun)) found.life))
          (ap (λ (n : Notes). n.accepted) same ∙ (more ∙ ap (λ (n : ℕ). old.notes.accepted ++ map (end_in n) (option_to_list made.accepted)) found.life));
    }
