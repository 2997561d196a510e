-- Datagrams that are delivered.
use Rattle.std.proofs.Common.{◌≡◌, refl, sym, ap, ◌∙◌, subst, ℕ, ◌-◌, ◌==◌, ◌++◌, cond, Bool, true, false, List, length, map, Option, Some, None, is_some, option_map, slice_get, slice_index_or}
use Rattle.std.specs.Vec.{with_item}
use Rattle.std.proofs.lemmas.Option.{none-some, slice_get-map, get_or_from_slice_get, slice_get_within, same_Some}
use Rattle.grasp_cbor.specs.Bytes.{AllBytes}
use Rattle.grasp_model_node.specs.Queue.{encoding}
use Rattle.grasp_types.specs.declared.reply.Reply.{Reply}
use Rattle.grasp_types.specs.declared.traffic.Input.TheVariants as input
use Rattle.grasp_laws_network.proofs.Appended.{numbered_get}
use Rattle.grasp_model_network.specs.EventSteps.{datagram_visit, answers_in, after_delivery}
use Rattle.grasp_model_network.specs.Events.{visit_of, after_event}
use Rattle.grasp_model_network.specs.Plans.{IsNode}
use Rattle.grasp_model_network.specs.Reports.{report_of}
use Rattle.grasp_model_network.specs.Setting.{Setting, numbered}
use Rattle.grasp_model_network.specs.Visits.{Visit, MayCome, no_choice, is_starved, visit, visit_seat}
use Rattle.grasp_model_network.specs.World.{Seat, SentDatagram, WorldState, present_life, seat_at}
use Rattle.grasp_model_network.specs.declared.event.Event.TheVariants as event
use Rattle.grasp_model_network.specs.declared.report.Report.TheVariants as report
use Rattle.grasp_laws_delivery.specs.Ready.{StreamsAreReady}
use Rattle.grasp_simulator.specs.Seats.{Sitting, SeatMeets, SeatStepped}
use Rattle.grasp_simulator.specs.Sends.{SendsBehind}
use Rattle.grasp_simulator.specs.WorldStands.{GoesToNode, WorldKeeps, WorldGoes, parcel_of}
use Rattle.grasp_simulator.specs.WorldSteps.{MayRun, HasRun, Runs, MayStarve}
use Rattle.grasp_simulator.specs.declared.parcel.Parcel.{Parcel}
use Rattle.grasp_simulator.specs.declared.seat.Seat.{Seat as SeatCode}
use Rattle.grasp_simulator.specs.declared.world.World.{World}
use Rattle.grasp_simulator.proofs.InputsGo.{own_step, Brings, input_runs, same_notes}
use Rattle.grasp_simulator.proofs.Presence.{Here, node_is}

-- ---- datagrams by their numbers

pub numbered_map : {A : Type 0} {B : Type 0} (f : A → B) (xs : List A) (n : ℕ) → numbered (map f xs) n ≡ option_map f (numbered xs n)
numbered_map f xs n = by_zero (n == 0) where
  by_zero : (b : Bool) → cond b None (slice_get (map f xs) (n - 1)) ≡ option_map f (cond b None (slice_get xs (n - 1)))
  by_zero true = refl
  by_zero false = slice_get-map f xs (n - 1)

-- the network's datagram of which the code keeps this
pub record IsSent (w : WorldState) (nodes index : ℕ) (parcel : Parcel) : Type 0 where
  pub datagram : SentDatagram
  pub got : numbered w.datagrams index ≡ Some datagram
  pub is : parcel ≡ parcel_of datagram
  pub reaches : IsNode nodes parcel.receiver

sent_is : (code : World) (s : Setting) (w : WorldState) (index : ℕ) (parcel : Parcel) → WorldKeeps code s w → numbered code.parcels index ≡ Some parcel → IsSent w code.plan.nodes index parcel
sent_is code s w index parcel keeps got = by_datagram (numbered w.datagrams index) refl where
  kept : option_map parcel_of (numbered w.datagrams index) ≡ Some parcel
  kept = sym (numbered_map parcel_of w.datagrams index) ∙ (ap (λ (ps : List Parcel). numbered ps index) (sym keeps.parcels) ∙ got)

  by_datagram : (o : Option SentDatagram) → numbered w.datagrams index ≡ o → IsSent w code.plan.nodes index parcel
  by_datagram None is = absurd (none-some parcel (sym (ap (option_map parcel_of) is) ∙ kept))
  by_datagram (Some d) is =
      let same : parcel_of d ≡ parcel = same_Some (parcel_of d) parcel (sym (ap (option_map parcel_of) is) ∙ kept) in
      let at : slice_get w.datagrams (index - 1) ≡ Some d = numbered_get w.datagrams index d is in
      let reaches : GoesToNode code.plan.nodes d =
      subst (GoesToNode code.plan.nodes) (get_or_from_slice_get w.datagrams (index - 1) d d at) (keeps.receivers (index - 1) d (slice_get_within w.datagrams (index - 1) d at)) in
      record { datagram = d; got = is; is = sym same; reaches = subst (λ (p : Parcel). IsNode code.plan.nodes p.receiver) same reaches }

not_sent : (code : World) (s : Setting) (w : WorldState) (index : ℕ) → WorldKeeps code s w → numbered code.parcels index ≡ None → numbered w.datagrams index ≡ None
not_sent code s w index keeps got = by_datagram (numbered w.datagrams index) refl where
  kept : option_map parcel_of (numbered w.datagrams index) ≡ None
  kept = sym (numbered_map parcel_of w.datagrams index) ∙ (ap (λ (ps : List Parcel). numbered ps index) (sym keeps.parcels) ∙ got)

  by_datagram : (o : Option SentDatagram) → numbered w.datagrams index ≡ o → numbered w.datagrams index ≡ None
  by_datagram None is = is
  by_datagram (Some d) is = absurd (none-some (parcel_of d) (sym kept ∙ ap (option_map parcel_of) is))

-- ---- a delivery

delivery_is : (w : WorldState) (index : ℕ) (d : SentDatagram) (node : ℕ) (seat : Seat) → numbered w.datagrams index ≡ Some d → present_life w d.route.receiver ≡ node → seat_at w node ≡ Some seat
    → datagram_visit w index ≡ Some (own_step node seat (input.Datagram d.route.link d.route.from (encoding d.message)))
unfolding datagram_visit
delivery_is w index d node seat got present here =
    rw got (ap (λ (k : ℕ). visit w k (input.Datagram d.route.link d.route.from (encoding d.message))) present ∙ ap (visit_seat node (input.Datagram d.route.link d.route.from (encoding d.message))) here)

delivery_brings : (s : Setting) (w : WorldState) (index : ℕ) (hold : Bool) (v : Visit) (r : Reply) → datagram_visit w index ≡ Some v
    → Brings s w w (event.Datagram index hold) (event.Datagram index true) hold v r (λ c. w.answers ++ answers_in w v index c)
unfolding after_event after_delivery report_of
delivery_brings s w index hold v r is = record {
  seats = refl;
  lives = refl;
  count = refl;
  comes = λ c step. rw is step;
  comes_held = λ c step. rw is step;
  after = λ c same. rw is refl;
  after_held = λ c same. rw is refl;
  reports = λ c. rw is refl;
}

pub datagram_runs : (law : StreamsAreReady) (old new : World) (index : ℕ) (hold : Bool) (parcel : Parcel) (node link from : ℕ) (bytes : List ℕ) (i : ℕ) (own after : SeatCode) (r : Reply) → numbered old.parcels index ≡ Some parcel → node ≡ parcel.receiver → link ≡ parcel.link → from ≡ parcel.from → bytes ≡ parcel.bytes
    → AllBytes bytes → IsNode (length old.seats.items) node → after.life ≡ own.life → i ≡ node - 1 → own ≡ slice_index_or old.seats.items i own
    → ((x : Sitting) → SeatMeets own (input.Datagram link from bytes) x → SeatStepped after (input.Datagram link from bytes) x r) → is_starved r ≡ false → new.notes ≡ old.notes
    → SendsBehind (record old { seats = with_item old.seats i after }) new node hold → Runs old new (event.Datagram index hold) (report.Reply r)
datagram_runs law old new index hold parcel node link from bytes i own after r got node_of link_of from_of bytes_of all is_node still place own_is steps fed same_is sends s w may =
    let keeps : WorldKeeps old s w = may.goes.keeps in
    let sent : IsSent w old.plan.nodes index parcel = sent_is old s w index parcel keeps got in
    let d : SentDatagram = sent.datagram in
    let there : Here w node = node_is old s w node keeps is_node in
    let life : ℕ = present_life w node in
    let v : Visit = own_step life there.seat (input.Datagram link from bytes) in
    let node_d : node ≡ d.route.receiver = node_of ∙ ap (λ (p : Parcel). p.receiver) sent.is in
    let link_d : link ≡ d.route.link = link_of ∙ ap (λ (p : Parcel). p.link) sent.is in
    let from_d : from ≡ d.route.from = from_of ∙ ap (λ (p : Parcel). p.from) sent.is in
    let bytes_d : bytes ≡ encoding d.message = bytes_of ∙ ap (λ (p : Parcel). p.bytes) sent.is in
    let present : present_life w d.route.receiver ≡ life = ap (λ (k : ℕ). present_life w k) (sym node_d) in
    let is : datagram_visit w index ≡ Some v =
    delivery_is w index d life there.seat sent.got present there.here
    ∙ (ap (λ (n : ℕ). Some (own_step life there.seat (input.Datagram n d.route.from (encoding d.message)))) (sym link_d)
    ∙ (ap (λ (n : ℕ). Some (own_step life there.seat (input.Datagram link n (encoding d.message)))) (sym from_d)
    ∙ ap (λ (b : List ℕ). Some (own_step life there.seat (input.Datagram link from b))) (sym bytes_d))) in
    input_runs law old old new s w w (event.Datagram index hold) (event.Datagram index true) hold v (λ c. w.answers ++ answers_in w v index c) node i own after r may (record { goes = may.goes; fit = tt })
    (delivery_brings s w index hold v r is) refl keeps there.here refl is_node place own_is still all steps fed
    (λ c. record { offers = (same_notes old.notes new.notes same_is).0; accepted = (same_notes old.notes new.notes same_is).1 }) sends

-- memory may be wanted for one whose receiver is there
pub datagram_starves : (code : World) (index : ℕ) (hold : Bool) (parcel : Parcel) → numbered code.parcels index ≡ Some parcel → IsNode (length code.seats.items) parcel.receiver → MayStarve code (event.Datagram index hold)
datagram_starves code index hold parcel got is_node s w may =
    let sent : IsSent w code.plan.nodes index parcel = sent_is code s w index parcel may.goes.keeps got in
    let there : Here w parcel.receiver = node_is code s w parcel.receiver may.goes.keeps is_node in
    let receiver : parcel.receiver ≡ sent.datagram.route.receiver = ap (λ (p : Parcel). p.receiver) sent.is in
    (refl, ap is_some (delivery_is w index sent.datagram (present_life w parcel.receiver) there.seat sent.got (ap (λ (k : ℕ). present_life w k) (sym receiver)) there.here))

none_delivered : (s : Setting) (w : WorldState) (index : ℕ) (hold : Bool) → visit_of s w (event.Datagram index hold) ≡ None → (after_event s w (event.Datagram index hold) no_choice ≡ w) × (report_of s w (event.Datagram index hold) no_choice ≡ report.Nothing)
unfolding after_event report_of
none_delivered s w index hold is = (rw is refl, rw is refl)

nothing_delivered : (code : World) (s : Setting) (w : WorldState) (index : ℕ) (hold : Bool) → MayRun code s w (event.Datagram index hold) → visit_of s w (event.Datagram index hold) ≡ None → HasRun code code s w (event.Datagram index hold) report.Nothing
nothing_delivered code s w index hold may is =
    let h = none_delivered s w index hold is in
    record { choice = no_choice; comes = subst (λ o. MayCome o no_choice) (sym is) tt; report_is = sym h.1; keeps = subst (WorldKeeps code s) (sym h.0) may.goes.keeps; noted = record { offers = refl; accepted = refl } }

-- nothing comes of a datagram that wasn't sent
pub no_datagram : (code : World) (index : ℕ) (hold : Bool) → numbered code.parcels index ≡ None → Runs code code (event.Datagram index hold) report.Nothing
unfolding datagram_visit
no_datagram code index hold got s w may = nothing_delivered code s w index hold may (rw (not_sent code s w index may.goes.keeps got) refl)

-- a datagram goes to a node that is there
pub unseated_datagram : (code : World) (index : ℕ) (hold : Bool) (parcel : Parcel) (node : ℕ) → numbered code.parcels index ≡ Some parcel → node ≡ parcel.receiver → (IsNode (length code.seats.items) node → ⊥) → Runs code code (event.Datagram index hold) report.Nothing
unseated_datagram code index hold parcel node got node_of none s w may =
    let goes : WorldGoes code s w = may.goes in
    let sent : IsSent w code.plan.nodes index parcel = sent_is code s w index parcel goes.keeps got in
    absurd (none (subst (λ (n : ℕ). IsNode n node) (sym goes.keeps.count) (subst (IsNode code.plan.nodes) (sym node_of) sent.reaches)))
