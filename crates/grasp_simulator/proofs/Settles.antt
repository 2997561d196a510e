-- A prefix in doubt is settled.
use Rattle.std.proofs.Common.{◌≡◌, refl, sym, ◌∙◌, subst, ℕ, ◌-◌, Some, None, Ok, slice_index_or, length, List, filter, ◌++◌, ◌∷◌, [], Contains}
use Rattle.std.proofs.lemmas.List.{length-set}
use Rattle.std.proofs.lemmas.Option.{none-some, same_Some}
use Rattle.std.specs.Vec.{with_item}
use Rattle.grasp_agent.specs.States.{AgentState}
use Rattle.grasp_laws_network.proofs.Going.{settled_reached}
use Rattle.grasp_laws_network.proofs.LivesKept.{dead_member}
use Rattle.grasp_laws_prefixes.specs.Grounds.{Grounds}
use Rattle.grasp_model_network.specs.Plans.{IsNode}
use Rattle.grasp_model_network.specs.Setting.{Setting}
use Rattle.grasp_model_network.specs.Settling.{IsDead, after_settle, is_other, offer_by}
use Rattle.grasp_model_network.specs.Visits.{no_choice}
use Rattle.grasp_model_network.specs.World.{Offered, Seat, WorldState, present_life, seat_at, with_seat}
use Rattle.grasp_model_network.specs.declared.report.Report.TheVariants as report
use Rattle.grasp_model_network.specs.declared.turn.Turn.{Turn}
use Rattle.grasp_model_network.specs.declared.turn.Turn.TheVariants as turn
use Rattle.grasp_types.specs.Prefix.{AddressBlock as Prefix}
use Rattle.grasp_simulator.specs.Contract.{Standing, going, stopped, MayAsk, MayAskFor, TurnAnswers}
use Rattle.grasp_simulator.specs.Seats.{SeatStands, settled}
use Rattle.grasp_simulator.specs.WorldStands.{GoesOn, WorldKeeps, WorldStands}
use Rattle.grasp_simulator.specs.WorldSteps.{IsAskedFor, Turned}
use Rattle.grasp_simulator.specs.declared.seat.Seat.{Seat as SeatCode}
use Rattle.grasp_simulator.specs.declared.world.World.{World}
use Rattle.grasp_simulator.proofs.Presence.{OwnSeat, own_seat, got_own, code_node}
use Rattle.grasp_simulator.proofs.Remembered.{settle_remembers}
use Rattle.grasp_simulator.proofs.Turns.{seat_keeps}

-- ---- what is asked

turned_at : (code : World) (t : Turn) (P : Type 0) → code.stopped ≡ None → (s : Setting) (at : Standing) → WorldStands code (record { setting = s; standing = at }) → MayAskFor s at t
    → ((s : Setting) (w : WorldState) → GoesOn code s w → length code.seats.items ≡ length s.members → MayAsk s w t → P) → P
turned_at code t P goes s (going w) h fit then = then s w h.stands h.count fit
turned_at code t P goes s (stopped why) h fit then = absurd (none-some why (sym goes ∙ h.stands))

-- what follows wherever a turn may be asked for follows for one that is asked for
pub turn_asked : (code : World) (t : Turn) (P : Type 0) → IsAskedFor code t → code.stopped ≡ None → ((s : Setting) (w : WorldState) → GoesOn code s w → length code.seats.items ≡ length s.members → MayAsk s w t → P) → P
turn_asked code t P asked goes then = turned_at code t P goes asked.network.setting asked.network.standing asked.meets.stands asked.meets.fit then

pub dead_node : (code : World) (node : ℕ) (p : Prefix) → IsAskedFor code (turn.Settle node p) → code.stopped ≡ None → IsNode (length code.seats.items) node
dead_node code node p asked goes =
    turn_asked code (turn.Settle node p) (IsNode (length code.seats.items) node) asked goes (λ s w h count dead. code_node code s w node h.goes.keeps (dead_member s w node p h.goes.reached dead))

pub dead_doubt : (code : World) (node i : ℕ) (p : Prefix) (own : SeatCode) → IsAskedFor code (turn.Settle node p) → code.stopped ≡ None → i ≡ node - 1 → own ≡ slice_index_or code.seats.items i own → Contains own.agent.pool.doubtful p
dead_doubt code node i p own asked goes place got =
    turn_asked code (turn.Settle node p) (Contains own.agent.pool.doubtful p) asked goes (λ s w h count dead.
    let keeps = h.goes.keeps in
    let found : OwnSeat w node own = own_seat code s w node i own keeps (code_node code s w node keeps (dead_member s w node p h.goes.reached dead)) place got in
    let same : dead.seat ≡ found.seat = same_Some dead.seat found.seat (sym dead.here ∙ found.here) in
    subst (λ (a : AgentState). Contains a.pool.doubtful p) (sym found.stands.agent) (subst (λ (x : Seat). Contains x.agent.pool.doubtful p) same dead.doubtful))

-- ---- the network then

settle_after : (w : WorldState) (node life : ℕ) (p : Prefix) (seat : Seat) (o : Offered) → present_life w node ≡ life → seat_at w life ≡ Some seat → offer_by w node p ≡ Some o
    → after_settle w node p ≡ record (with_seat w life (settled seat p)) { offers = filter (is_other o) w.offers; settled = w.settled ++ o ∷ [] }
unfolding after_settle
settle_after w node life p seat o present here found = rw present (rw here (rw found refl))

settled_keeps : (code : World) (s : Setting) (w : WorldState) (list : List Offered) → WorldKeeps code s w → WorldKeeps code s (record w { settled = list })
settled_keeps code s w list keeps = record {
  good = keeps.good;
  setting = keeps.setting;
  count = keeps.count;
  seats = keeps.seats;
  lives = keeps.lives;
  streams = keeps.streams;
  marks = keeps.marks;
  parcels = keeps.parcels;
  receivers = keeps.receivers;
  places = keeps.places;
  sent = keeps.sent;
  goes = keeps.goes;
}

module _ (l : Grounds) (old : World) (node i : ℕ) (p : Prefix) (own changed : SeatCode) (still : changed.life ≡ own.life) (place : i ≡ node - 1) (got : own ≡ slice_index_or old.seats.items i own)
    (turns : (s : Seat) → SeatStands own s → SeatStands changed (settled s p)) where
  abbrev new : World
  new = record old { seats = with_item old.seats i changed }

  goes_so : (s : Setting) (w : WorldState) → GoesOn old s w → IsDead w node p → GoesOn new s (after_settle w node p)
  goes_so s w h dead =
      let keeps : WorldKeeps old s w = h.goes.keeps in
      let is_node : IsNode (length old.seats.items) node = code_node old s w node keeps (dead_member s w node p h.goes.reached dead) in
      let found : OwnSeat w node own = own_seat old s w node i own keeps is_node place got in
      let life : ℕ = present_life w node in
      let next : WorldState = record (with_seat w life (settled found.seat p)) { offers = filter (is_other dead.offer) w.offers } in
      record {
        goes = record {
          reached = settled_reached s w node p h.goes.reached dead;
          keeps = subst (WorldKeeps new s) (sym (settle_after w node life p found.seat dead.offer refl found.here dead.found))
              (settled_keeps new s next (w.settled ++ dead.offer ∷ [])
              (seat_keeps old s w keeps life i own changed (got_own old node i own is_node place got) still (sym found.life) (settled found.seat p) (turns found.seat found.stands) (filter (is_other dead.offer) w.offers)));
        };
        remembers = settle_remembers l s w node p h.goes.reached dead old.notes h.remembers;
      }

  by_standing : old.stopped ≡ None → (s : Setting) (at : Standing) → WorldStands old (record { setting = s; standing = at }) → MayAskFor s at (turn.Settle node p)
      → TurnAnswers (WorldStands new) s at (turn.Settle node p) (Ok report.Nothing)
  by_standing goes s (going w) h dead = record {
    choice = no_choice;
    taken = dead;
    report_is = refl;
    stands = record { count = length-set old.seats.items i changed ∙ h.count; stands = goes_so s w h.stands dead };
  }
  by_standing goes s (stopped why) h fit = absurd (none-some why (sym goes ∙ h.stands))

  -- the prefix is settled
  pub settles : old.stopped ≡ None → Turned old new (turn.Settle node p) (Ok report.Nothing)
  settles goes x met = by_standing goes x.setting x.standing met.stands met.fit
