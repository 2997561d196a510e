-- Bytes that come to a side of a stream, and a side that is told that its stream is closed.
use Rattle.grasp_simulator.specs.Marking.{begins_as}
use Rattle.std.proofs.Common.{◌≡◌, refl, sym, ap, ◌∙◌, subst, ℕ, ◌-◌, Bool, true, false, List, length, Option, Some, None, is_some, slice_index_or}
use Rattle.std.specs.Vec.{with_item}
use Rattle.std.proofs.lemmas.Option.{none-some, same_Some}
use Rattle.grasp_cbor.specs.Bytes.{AllBytes}
use Rattle.grasp_session.specs.Messages.{Side, other, Near, Far}
use Rattle.grasp_types.specs.declared.reply.Reply.{Reply}
use Rattle.grasp_types.specs.declared.traffic.Input.TheVariants as input
use Rattle.grasp_model_network.specs.EventSteps.{cut_visit, after_cut, piece_visit, after_piece}
use Rattle.grasp_model_network.specs.Events.{visit_of, after_event}
use Rattle.grasp_model_network.specs.StreamChanges.{Reached, reached_at, reached_in, reached_side, side_named}
use Rattle.grasp_model_network.specs.Reports.{report_of}
use Rattle.grasp_model_network.specs.Setting.{Setting, numbered}
use Rattle.grasp_model_network.specs.Sending.{stepped}
use Rattle.grasp_model_network.specs.Streams.{StreamEnd, StreamState, told_closed, is_reached, side_at, end_at, next_bytes, stream_numbered, change_at_end, with_delivered, with_side, Arrival}
use Rattle.grasp_model_network.specs.Visits.{Visit, MayCome, no_choice, is_starved, visit, visit_seat}
use Rattle.grasp_model_network.specs.World.{Seat, WorldState, seat_at, end_of, present_life}
use Rattle.grasp_model_network.specs.declared.event.Event.TheVariants as event
use Rattle.grasp_model_network.specs.declared.report.Report.TheVariants as report
use Rattle.grasp_laws_delivery.specs.Ready.{AreSent, StreamsAreReady, StepsArePresent}
use Rattle.grasp_simulator.specs.Seats.{Sitting, SeatMeets, SeatStepped}
use Rattle.grasp_simulator.specs.Sends.{SendsBehind}
use Rattle.grasp_simulator.specs.StreamParts.{side_of, piece_at}
use Rattle.grasp_simulator.specs.StreamsStand.{StreamsStand, ChangesAt, Queueing}
use Rattle.grasp_simulator.specs.WorldStands.{WorldKeeps, WorldGoes, owner_in}
use Rattle.grasp_simulator.specs.WorldSteps.{Runs, MayStarve}
use Rattle.grasp_simulator.specs.declared.seat.Seat.{Seat as SeatCode}
use Rattle.grasp_simulator.specs.declared.stream.LifeEnd.{LifeEnd}
use Rattle.grasp_simulator.specs.declared.stream.Stream.{Stream}
use Rattle.grasp_simulator.specs.declared.streams.Streams.{Streams}
use Rattle.grasp_simulator.specs.declared.world.World.{World}
use Rattle.grasp_simulator.proofs.InputsGo.{own_step, Brings, input_runs, same_notes}
use Rattle.grasp_simulator.proofs.Nears.{KeepsNear, still_changed}
use Rattle.grasp_simulator.proofs.Presence.{Owned, owned_life, owner_some, owner_present, unowned}
use Rattle.grasp_simulator.proofs.Turns.{with_streams}
use Rattle.grasp_simulator.proofs.SideEnds.{IsSide, side_is, alone_sent}

-- ---- the side

-- the side that the event reaches, with the code's end
pub record Found (code : World) (w : WorldState) (k : ℕ) (far : Bool) (e : LifeEnd) : Type 0 where
  pub side : Reached
  pub got : reached_side w k (side_named far) ≡ Some side
  pub at : side.at ≡ end_of e.life e.number
  pub pieces : (count : ℕ) → piece_at (numbered code.streams.list.items k) far count ≡ next_bytes side.talk (other (side_named far)) count
  pub sent : AreSent w.streams (end_of e.life e.number)

-- the side's stream is the one of this number
talk_of : (side : Side) (o : Option StreamState) (x : Reached) → reached_in side o ≡ Some x → o ≡ Some x.talk
talk_of side None x e = absurd (none-some x e)
talk_of side (Some t) x e = by_end (is_reached (side_at t side)) (end_at t side) e where
  by_end : (b : Bool) (p : Option StreamEnd) → reached_at t b p ≡ Some x → Some t ≡ Some x.talk
  by_end true None e = absurd (none-some x e)
  by_end true (Some q) e = ap Some (ap (λ (y : Reached). y.talk) (same_Some (record { talk = t; at = q }) x e))
  by_end false p e = absurd (none-some x e)

found_by : (law : StreamsAreReady) (code : World) (s : Setting) (w : WorldState) (k : ℕ) (far : Bool) (e : LifeEnd) (o : Option Reached) → WorldGoes code s w → reached_in (side_named far) (stream_numbered w.streams k) ≡ o → IsSide (numbered code.streams.list.items k) far (Some e) o → Found code w k far e
unfolding reached_side
found_by law code s w k far e None goes is side = absurd side
found_by law code s w k far e (Some x) goes is side = record {
  side = x;
  got = is;
  at = side.at;
  pieces = side.pieces;
  sent = subst (AreSent w.streams) side.at (alone_sent x.at k w.streams x.talk (law.apart s w goes.reached x.at) (talk_of (side_named far) (stream_numbered w.streams k) x is) side.has);
}

pub found : (law : StreamsAreReady) (code : World) (s : Setting) (w : WorldState) (k : ℕ) (far : Bool) (e : LifeEnd) → WorldGoes code s w → side_of (numbered code.streams.list.items k) k far ≡ Some e → Found code w k far e
found law code s w k far e goes is =
    found_by law code s w k far e (reached_in (side_named far) (stream_numbered w.streams k)) goes refl
    (subst (λ o. IsSide (numbered code.streams.list.items k) far o (reached_in (side_named far) (stream_numbered w.streams k))) is (side_is code.streams.list.items code.streams.near.entries (begins_as w.lives code.marks code.plan.nodes) w.streams w.dials goes.keeps.streams k far))

none_by : (co : Option Stream) (far : Bool) (o : Option Reached) → IsSide co far None o → o ≡ None
none_by co far None h = refl
none_by co far (Some x) h = absurd h

-- where the code finds no end, the event reaches no side
pub none_found : (code : World) (s : Setting) (w : WorldState) (k : ℕ) (far : Bool) → WorldGoes code s w → side_of (numbered code.streams.list.items k) k far ≡ None → reached_side w k (side_named far) ≡ None
unfolding reached_side
none_found code s w k far goes is =
    none_by (numbered code.streams.list.items k) far (reached_in (side_named far) (stream_numbered w.streams k))
    (subst (λ o. IsSide (numbered code.streams.list.items k) far o (reached_in (side_named far) (stream_numbered w.streams k))) is (side_is code.streams.list.items code.streams.near.entries (begins_as w.lives code.marks code.plan.nodes) w.streams w.dials goes.keeps.streams k far))

-- ---- bytes

delivered_near : (count : ℕ) → KeepsNear (with_delivered count)
delivered_near count t Near = refl
delivered_near count t Far = refl

told_near : (a : Arrival) → KeepsNear (with_side a)
told_near a t Near = refl
told_near a t Far = refl

piece_is_at : (w : WorldState) (k : ℕ) (far : Bool) (count : ℕ) (x : Reached) (node number : ℕ) (seat : Seat) → reached_side w k (side_named far) ≡ Some x → x.at ≡ end_of node number → seat_at w node ≡ Some seat
    → piece_visit w k (side_named far) count ≡ Some (own_step node seat (input.Bytes number (next_bytes x.talk (other (side_named far)) count)))
unfolding piece_visit
piece_is_at w k far count x node number seat got at here =
    rw got (ap (λ (e : StreamEnd). visit w e.node (input.Bytes e.number (next_bytes x.talk (other (side_named far)) count))) at ∙ ap (visit_seat node (input.Bytes number (next_bytes x.talk (other (side_named far)) count))) here)

bytes_bring : (s : Setting) (w : WorldState) (k : ℕ) (far : Bool) (count : ℕ) (hold : Bool) (x : Reached) (v : Visit) (r : Reply) → reached_side w k (side_named far) ≡ Some x → piece_visit w k (side_named far) count ≡ Some v
    → Brings s w (record w { streams = change_at_end w.streams x.at (with_delivered count) }) (event.Bytes k far count hold) (event.Bytes k far count true) hold v r (λ c. w.answers)
unfolding after_event after_piece report_of stepped
bytes_bring s w k far count hold x v r got is = record {
  seats = refl;
  lives = refl;
  count = refl;
  comes = λ c step. rw is step;
  comes_held = λ c step. rw is step;
  after = λ c same. rw is (rw got refl);
  after_held = λ c same. rw is (rw got refl);
  reports = λ c. rw is refl;
}

pub bytes_run : (law : StreamsAreReady) (present : StepsArePresent) (old new : World) (k : ℕ) (far : Bool) (count : ℕ) (hold : Bool) (e : LifeEnd) (node : ℕ) (bytes : List ℕ) (streams : Streams) (i : ℕ) (own after : SeatCode) (r : Reply)
    → side_of (numbered old.streams.list.items k) k far ≡ Some e → owner_in (length old.seats.items) (numbered old.lives e.life) ≡ Some node → bytes ≡ piece_at (numbered old.streams.list.items k) far count → AllBytes bytes
    → ChangesAt old.streams streams e.life e.number (with_delivered count) → after.life ≡ own.life → i ≡ node - 1 → own ≡ slice_index_or old.seats.items i own
    → ((x : Sitting) → SeatMeets own (input.Bytes e.number bytes) x → SeatStepped after (input.Bytes e.number bytes) x r) → is_starved r ≡ false → new.notes ≡ old.notes
    → SendsBehind (record old { streams = streams; seats = with_item old.seats i after }) new node hold → Runs old new (event.Bytes k far count hold) (report.Reply r)
bytes_run law present old new k far count hold e node bytes streams i own after r finds owns are all changes still place got steps fed same_is sends s w may =
    let f : Found old w k far e = found law old s w k far e may.goes finds in
    let keeps : WorldKeeps old s w = may.goes.keeps in
    let owner = owner_some (length old.seats.items) (numbered old.lives e.life) node owns in
    let there : Owned w e.life node = owned_life old s w e.life node may.goes owner.0 in
    let same : bytes ≡ next_bytes f.side.talk (other (side_named far)) count = are ∙ f.pieces count in
    let v : Visit = own_step e.life there.seat (input.Bytes e.number bytes) in
    let is : piece_visit w k (side_named far) count ≡ Some v =
    piece_is_at w k far count f.side e.life e.number there.seat f.got f.at there.here ∙ ap (λ (b : List ℕ). Some (own_step e.life there.seat (input.Bytes e.number b))) (sym same) in
    let at : e.life ≡ present_life w node = owner_present w e.life node there.member (present s w (event.Bytes k far count hold) v may.goes.reached tt is) in
    let changed : WorldState = record w { streams = change_at_end w.streams f.side.at (with_delivered count) } in
    let begins : Queueing = begins_as w.lives old.marks old.plan.nodes in
    let kept : WorldKeeps (record old { streams = streams }) s changed =
    with_streams old s w streams (change_at_end w.streams f.side.at (with_delivered count)) w.dials keeps
    (λ q was. still_changed (with_delivered count) (delivered_near count) w.streams f.side.at q was)
    (subst (λ (q : StreamEnd). StreamsStand streams begins (change_at_end w.streams q (with_delivered count)) w.dials) (sym f.at) (changes begins w.streams w.dials f.sent keeps.streams)) in
    input_runs law old (record old { streams = streams }) new s w changed (event.Bytes k far count hold) (event.Bytes k far count true) hold v (λ c. w.answers) node i own after r may (record { goes = may.goes; fit = tt })
    (bytes_bring s w k far count hold f.side v r f.got is) refl kept there.here at owner.1 place got still all steps fed
    (λ c. record { offers = (same_notes old.notes new.notes same_is).0; accepted = (same_notes old.notes new.notes same_is).1 }) sends

-- memory may be wanted for them
pub bytes_starve : (law : StreamsAreReady) (code : World) (k : ℕ) (far : Bool) (count : ℕ) (hold : Bool) (e : LifeEnd) (node : ℕ) → side_of (numbered code.streams.list.items k) k far ≡ Some e
    → owner_in (length code.seats.items) (numbered code.lives e.life) ≡ Some node → MayStarve code (event.Bytes k far count hold)
bytes_starve law code k far count hold e node finds owns s w may =
    let f : Found code w k far e = found law code s w k far e may.goes finds in
    let there : Owned w e.life node = owned_life code s w e.life node may.goes (owner_some (length code.seats.items) (numbered code.lives e.life) node owns).0 in
    (refl, ap is_some (piece_is_at w k far count f.side e.life e.number there.seat f.got f.at there.here))

none_bytes : (s : Setting) (w : WorldState) (k : ℕ) (far : Bool) (count : ℕ) (hold : Bool) → visit_of s w (event.Bytes k far count hold) ≡ None → (after_event s w (event.Bytes k far count hold) no_choice ≡ w) × (report_of s w (event.Bytes k far count hold) no_choice ≡ report.Nothing)
unfolding after_event report_of
none_bytes s w k far count hold is = (rw is refl, rw is refl)

-- nothing comes of bytes for no side
pub no_bytes : (code : World) (k : ℕ) (far : Bool) (count : ℕ) (hold : Bool) → side_of (numbered code.streams.list.items k) k far ≡ None → Runs code code (event.Bytes k far count hold) report.Nothing
unfolding piece_visit
no_bytes code k far count hold finds s w may =
    let is : visit_of s w (event.Bytes k far count hold) ≡ None = rw (none_found code s w k far may.goes finds) refl in
    let h = none_bytes s w k far count hold is in
    record { choice = no_choice; comes = subst (λ o. MayCome o no_choice) (sym is) tt; report_is = sym h.1; keeps = subst (WorldKeeps code s) (sym h.0) may.goes.keeps; noted = record { offers = refl; accepted = refl } }

-- ---- a side that is told

cut_is_at : (w : WorldState) (k : ℕ) (far : Bool) (x : Reached) (node number : ℕ) (seat : Seat) → reached_side w k (side_named far) ≡ Some x → x.at ≡ end_of node number → seat_at w node ≡ Some seat
    → cut_visit w k (side_named far) ≡ Some (own_step node seat (input.Closed number))
unfolding cut_visit
cut_is_at w k far x node number seat got at here =
    rw got (ap (λ (e : StreamEnd). visit w e.node (input.Closed e.number)) at ∙ ap (visit_seat node (input.Closed number)) here)

cut_brings : (s : Setting) (w : WorldState) (k : ℕ) (far hold : Bool) (x : Reached) (v : Visit) (r : Reply) → reached_side w k (side_named far) ≡ Some x → cut_visit w k (side_named far) ≡ Some v
    → Brings s w (record w { streams = change_at_end w.streams x.at (with_side told_closed) }) (event.Cut k far hold) (event.Cut k far true) hold v r (λ c. w.answers)
unfolding after_event after_cut report_of stepped
cut_brings s w k far hold x v r got is = record {
  seats = refl;
  lives = refl;
  count = refl;
  comes = λ c step. rw is step;
  comes_held = λ c step. rw is step;
  after = λ c same. rw is (rw got refl);
  after_held = λ c same. rw is (rw got refl);
  reports = λ c. rw is refl;
}

pub cut_runs : (law : StreamsAreReady) (present : StepsArePresent) (old new : World) (k : ℕ) (far hold : Bool) (e : LifeEnd) (node : ℕ) (streams : Streams) (i : ℕ) (own after : SeatCode) (r : Reply)
    → side_of (numbered old.streams.list.items k) k far ≡ Some e → owner_in (length old.seats.items) (numbered old.lives e.life) ≡ Some node → ChangesAt old.streams streams e.life e.number (with_side told_closed)
    → after.life ≡ own.life → i ≡ node - 1 → own ≡ slice_index_or old.seats.items i own → ((x : Sitting) → SeatMeets own (input.Closed e.number) x → SeatStepped after (input.Closed e.number) x r) → is_starved r ≡ false
    → new.notes ≡ old.notes → SendsBehind (record old { streams = streams; seats = with_item old.seats i after }) new node hold → Runs old new (event.Cut k far hold) (report.Reply r)
cut_runs law present old new k far hold e node streams i own after r finds owns changes still place got steps fed same_is sends s w may =
    let f : Found old w k far e = found law old s w k far e may.goes finds in
    let keeps : WorldKeeps old s w = may.goes.keeps in
    let owner = owner_some (length old.seats.items) (numbered old.lives e.life) node owns in
    let there : Owned w e.life node = owned_life old s w e.life node may.goes owner.0 in
    let v : Visit = own_step e.life there.seat (input.Closed e.number) in
    let is : cut_visit w k (side_named far) ≡ Some v = cut_is_at w k far f.side e.life e.number there.seat f.got f.at there.here in
    let at : e.life ≡ present_life w node = owner_present w e.life node there.member (present s w (event.Cut k far hold) v may.goes.reached tt is) in
    let changed : WorldState = record w { streams = change_at_end w.streams f.side.at (with_side told_closed) } in
    let begins : Queueing = begins_as w.lives old.marks old.plan.nodes in
    let kept : WorldKeeps (record old { streams = streams }) s changed =
    with_streams old s w streams (change_at_end w.streams f.side.at (with_side told_closed)) w.dials keeps
    (λ q was. still_changed (with_side told_closed) (told_near told_closed) w.streams f.side.at q was)
    (subst (λ (q : StreamEnd). StreamsStand streams begins (change_at_end w.streams q (with_side told_closed)) w.dials) (sym f.at) (changes begins w.streams w.dials f.sent keeps.streams)) in
    input_runs law old (record old { streams = streams }) new s w changed (event.Cut k far hold) (event.Cut k far true) hold v (λ c. w.answers) node i own after r may (record { goes = may.goes; fit = tt })
    (cut_brings s w k far hold f.side v r f.got is) refl kept there.here at owner.1 place got still tt steps fed
    (λ c. record { offers = (same_notes old.notes new.notes same_is).0; accepted = (same_notes old.notes new.notes same_is).1 }) sends

-- memory may be wanted for it
pub cut_starves : (law : StreamsAreReady) (code : World) (k : ℕ) (far hold : Bool) (e : LifeEnd) (node : ℕ) → side_of (numbered code.streams.list.items k) k far ≡ Some e
    → owner_in (length code.seats.items) (numbered code.lives e.life) ≡ Some node → MayStarve code (event.Cut k far hold)
cut_starves law code k far hold e node finds owns s w may =
    let f : Found code w k far e = found law code s w k far e may.goes finds in
    let there : Owned w e.life node = owned_life code s w e.life node may.goes (owner_some (length code.seats.items) (numbered code.lives e.life) node owns).0 in
    (refl, ap is_some (cut_is_at w k far f.side e.life e.number there.seat f.got f.at there.here))

none_cut : (s : Setting) (w : WorldState) (k : ℕ) (far hold : Bool) → visit_of s w (event.Cut k far hold) ≡ None → (after_event s w (event.Cut k far hold) no_choice ≡ w) × (report_of s w (event.Cut k far hold) no_choice ≡ report.Nothing)
unfolding after_event report_of
none_cut s w k far hold is = (rw is refl, rw is refl)

-- nothing comes of a cut of no side
pub no_cut : (code : World) (k : ℕ) (far hold : Bool) → side_of (numbered code.streams.list.items k) k far ≡ None → Runs code code (event.Cut k far hold) report.Nothing
unfolding cut_visit
no_cut code k far hold finds s w may =
    let is : visit_of s w (event.Cut k far hold) ≡ None = rw (none_found code s w k far may.goes finds) refl in
    let h = none_cut s w k far hold is in
    record { choice = no_choice; comes = subst (λ o. MayCome o no_choice) (sym is) tt; report_is = sym h.1; keeps = subst (WorldKeeps code s) (sym h.0) may.goes.keeps; noted = record { offers = refl; accepted = refl } }

-- ---- a side at a node that isn't there

side_unseated : (w : WorldState) (k : ℕ) (far : Bool) (x : Reached) (node number : ℕ) → reached_side w k (side_named far) ≡ Some x → x.at ≡ end_of node number → seat_at w node ≡ None
    → ((count : ℕ) → piece_visit w k (side_named far) count ≡ None) × (cut_visit w k (side_named far) ≡ None)
unfolding piece_visit cut_visit
side_unseated w k far x node number got at none = (
  λ count. rw got (ap (λ (e : StreamEnd). visit w e.node (input.Bytes e.number (next_bytes x.talk (other (side_named far)) count))) at ∙ ap (visit_seat node (input.Bytes number (next_bytes x.talk (other (side_named far)) count))) none),
  rw got (ap (λ (e : StreamEnd). visit w e.node (input.Closed e.number)) at ∙ ap (visit_seat node (input.Closed number)) none),
)

pub unseated_bytes : (law : StreamsAreReady) (code : World) (k : ℕ) (far : Bool) (count : ℕ) (hold : Bool) (e : LifeEnd) → side_of (numbered code.streams.list.items k) k far ≡ Some e
    → owner_in (length code.seats.items) (numbered code.lives e.life) ≡ None → Runs code code (event.Bytes k far count hold) report.Nothing
unseated_bytes law code k far count hold e finds none s w may =
    let f : Found code w k far e = found law code s w k far e may.goes finds in
    let is : visit_of s w (event.Bytes k far count hold) ≡ None = (side_unseated w k far f.side e.life e.number f.got f.at (unowned code s w e.life may.goes none)).0 count in
    let h = none_bytes s w k far count hold is in
    record { choice = no_choice; comes = subst (λ o. MayCome o no_choice) (sym is) tt; report_is = sym h.1; keeps = subst (WorldKeeps code s) (sym h.0) may.goes.keeps; noted = record { offers = refl; accepted = refl } }

pub unseated_cut : (law : StreamsAreReady) (code : World) (k : ℕ) (far hold : Bool) (e : LifeEnd) → side_of (numbered code.streams.list.items k) k far ≡ Some e
    → owner_in (length code.seats.items) (numbered code.lives e.life) ≡ None → Runs code code (event.Cut k far hold) report.Nothing
unseated_cut law code k far hold e finds none s w may =
    let f : Found code w k far e = found law code s w k far e may.goes finds in
    let is : visit_of s w (event.Cut k far hold) ≡ None = (side_unseated w k far f.side e.life e.number f.got f.at (unowned code s w e.life may.goes none)).1 in
    let h = none_cut s w k far hold is in
    record { choice = no_choice; comes = subst (λ o. MayCome o no_choice) (sym is) tt; report_is = sym h.1; keeps = subst (WorldKeeps code s) (sym h.0) may.goes.keeps; noted = record { offers = refl; accepted = refl } }
