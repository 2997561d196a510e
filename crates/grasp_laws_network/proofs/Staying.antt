-- No event begins a life or takes one away, of each it is known whose it is, and a want changes the want of one agent alone.
use Rattle.std.proofs.Common.{◌≡◌, refl, sym, ap, ◌∙◌, subst, arith, ℕ, zero, suc, ◌+◌, ◌-◌, ◌≤◌, ◌==◌, Bool, true, false, cond, List, [], ◌∷◌, ◌++◌, length, slice_get, slice_set, Option, Some, None, Result, Ok, Err}
use Rattle.std.proofs.lemmas.List.{length-append, length-map, length-set}
use Rattle.std.proofs.lemmas.Option.{none-some, same_Some}
use Rattle.grasp_agent.specs.Replies as agent
use Rattle.grasp_agent.specs.Reopening.{retired}
use Rattle.grasp_agent.specs.Replies.{want_reply, after_want, new_want}
use Rattle.grasp_agent.specs.States.{AgentState}
use Rattle.grasp_agent.specs.declared.want.Want.{Want}
use Rattle.grasp_agent.specs.declared.want.WantFault.{WantFault}
use Rattle.grasp_pool.specs.Functions.{pool_of_image}
use Rattle.grasp_pool.specs.declared.image.PoolImage.{PoolImage}
use Rattle.grasp_types.specs.declared.address.Locator.{Locator}
use Rattle.grasp_laws_network.proofs.Appended.{get_numbered}
use Rattle.grasp_laws_network.proofs.GoodPlans.{count_numbers, number_at, one_more}
use Rattle.grasp_laws_network.proofs.Here.{present_least}
use Rattle.grasp_laws_network.proofs.Others.{put_same, event_same}
use Rattle.grasp_laws_network.proofs.Reached.{reached_keeps}
use Rattle.grasp_laws_network.proofs.SameLives.{one_lives, event_lives}
use Rattle.grasp_laws_network.proofs.Telling.{none_one}
use Rattle.grasp_laws_network.proofs.Turning.{settle_one, restart_by}
use Rattle.grasp_model_network.specs.Events.{visit_of, after_none, after_by, after_event}
use Rattle.grasp_laws_network.specs.Keeping.{SeatsStay, WantChanges, WantsChangeWants}
use Rattle.grasp_laws_network.specs.Lives.{TurnsKeep}
use Rattle.grasp_laws_network.specs.Telling.{OneAgent}
use Rattle.grasp_model_network.specs.Openings.{first_seat, opened_seat}
use Rattle.grasp_model_network.specs.Plans.{IsNode}
use Rattle.grasp_model_network.specs.Restarting.{restarted}
use Rattle.grasp_model_network.specs.Runs.{IsReached, first_world}
use Rattle.grasp_model_network.specs.Sending.{seat_with}
use Rattle.grasp_model_network.specs.Setting.{Member, Setting, numbered, numbers_from}
use Rattle.grasp_model_network.specs.Telling.{Telling, want_told, after_telling, after_told}
use Rattle.grasp_model_network.specs.Visits.{Visit, Choice}
use Rattle.grasp_model_network.specs.World.{Seat, WorldState, present_life, seat_at, with_seat}
use Rattle.grasp_model_network.specs.declared.event.Event.{Event}

-- ---- as many nodes as before

pub one_same : (w x : WorldState) → OneAgent w x → length x.seats ≡ length w.seats
one_same w x o = ap (λ (y : WorldState). length y.seats) o.after ∙ length-set w.seats (o.node - 1) (seat_with o.seat.core o.agent)

pub none_same : (s : Setting) (w : WorldState) (e : Event) → length (after_none s w e).seats ≡ length w.seats
none_same s w e = none_one s w e (λ x. length x.seats ≡ length w.seats) refl (one_same w)

pub seats_stay_each : (s : Setting) (w : WorldState) (e : Event) (c : Choice) → length (after_event s w e c).seats ≡ length w.seats
unfolding after_event
seats_stay_each s w e c = by_visit (visit_of s w e) refl where
  nothing : visit_of s w e ≡ None → length (after_by s w e c (visit_of s w e)).seats ≡ length w.seats
  nothing is = subst (λ o. length (after_by s w e c o).seats ≡ length w.seats) (sym is) (none_same s w e)

  by_visit : (o : Option Visit) → visit_of s w e ≡ o → length (after_event s w e c).seats ≡ length w.seats
  by_visit None is = nothing is
  by_visit (Some v) is = (event_same s w e c v is).count

-- the first network has one for each member
pub first_seats : (s : Setting) → length (first_world s).seats ≡ length s.members
unfolding first_world
first_seats s = length-map s.members first_seat

-- ---- whose each life is

abbrev pub KnowsLives : WorldState → Type 0
KnowsLives w = length w.seats ≡ length w.lives

-- the first lives are those of the members, in order
pub first_own : (s : Setting) (node : ℕ) → IsNode (length s.members) node → numbered (first_world s).lives node ≡ Some node
unfolding first_world
first_own s node is =
    get_numbered (numbers_from 1 (length s.members)) node (Some node) is.least
    (number_at 1 (length s.members) (node - 1) (let a : 1 ≤ node = is.least in let b : node ≤ length s.members = is.most in omega arith)
    ∙ ap (λ k. Some k) (one_more node is.least))

first_knows : (s : Setting) → KnowsLives (first_world s)
unfolding first_world
first_knows s = length-map s.members first_seat ∙ sym (count_numbers 1 (length s.members))

one_knows : (w x : WorldState) → KnowsLives w → OneAgent w x → KnowsLives x
one_knows w x known o = one_same w x o ∙ known ∙ sym (ap length (one_lives w x o))

begun_knows : (s : Setting) (w : WorldState) (node life : ℕ) (image : PoolImage) (seat : Seat) (m : Member) → KnowsLives w → KnowsLives (restarted s w node life image seat m)
begun_knows s w node life image seat m known = by_lists (seat_with seat.core (retired seat.agent)) (opened_seat m.plan (pool_of_image image)) where
  by_lists : (old new : Seat) → length (slice_set w.seats (life - 1) old ++ new ∷ []) ≡ length (w.lives ++ node ∷ [])
  by_lists old new =
      let a : length (slice_set w.seats (life - 1) old ++ new ∷ []) ≡ length (slice_set w.seats (life - 1) old) + 1 = length-append (slice_set w.seats (life - 1) old) (new ∷ []) in
      let b : length (slice_set w.seats (life - 1) old) ≡ length w.seats = length-set w.seats (life - 1) old in
      let c : length (w.lives ++ node ∷ []) ≡ length w.lives + 1 = length-append w.lives (node ∷ []) in
      let d : length w.seats ≡ length w.lives = known in
      omega arith

turns_know : (s : Setting) → TurnsKeep s KnowsLives
turns_know s = record {
  events = λ w e c o known. seats_stay_each s w e c ∙ known ∙ sym (ap length (event_lives s w e c));
  settles = λ w node p dead known. settle_one w node p KnowsLives known (λ x o. one_knows w x known o);
  restarts = λ w node image may known. restart_by s w node image KnowsLives known (λ seat m here found. begun_knows s w node (present_life w node) image seat m known);
}

pub reached_knows : (s : Setting) (w : WorldState) → IsReached s w → KnowsLives w
reached_knows s w r = reached_keeps s KnowsLives (first_knows s) (turns_know s) w r

pub seats_stay : SeatsStay
seats_stay = record { each = seats_stay_each; all = reached_knows }

-- ---- wants

pub set_here : {A : Type 0} (xs : List A) (i : ℕ) (x y : A) → slice_get xs i ≡ Some x → slice_get (slice_set xs i y) i ≡ Some y
set_here [] i x y e = absurd (none-some x e)
set_here (z ∷ zs) zero x y e = refl
set_here (z ∷ zs) (suc i) x y e = set_here zs i x y e

-- what is put at the number of a node is found there
pub put_here : (seats : List Seat) (node : ℕ) (seat other : Seat) → numbered seats node ≡ Some seat → numbered (slice_set seats (node - 1) other) node ≡ Some other
put_here seats node seat other e = by_zero (node == 0) refl where
  by_zero : (b : Bool) → (node == 0) ≡ b → numbered (slice_set seats (node - 1) other) node ≡ Some other
  by_zero true is = absurd (none-some seat (subst (λ z. cond z None (slice_get seats (node - 1)) ≡ Some seat) is e))
  by_zero false is = rw is (set_here seats (node - 1) seat other (subst (λ z. cond z None (slice_get seats (node - 1)) ≡ Some seat) is e))

-- the agent of a node that was told something is found there
pub told_here : (w : WorldState) (t : Telling) (seat old : Seat) → seat_at w t.node ≡ Some seat → seat_at w t.node ≡ Some old
    → seat_at (after_telling w t (Some seat)) t.node ≡ Some (seat_with old.core (agent.after_event old.agent t.what))
told_here w t seat old here e =
    put_here w.seats t.node seat (seat_with seat.core (agent.after_event seat.agent t.what)) here
    ∙ ap (λ (x : Seat). Some (seat_with x.core (agent.after_event x.agent t.what))) (same_Some seat old (sym here ∙ e))

abbrev want_after : AgentState → ℕ → ℕ → Locator → Result (Unit {0}) WantFault → Option Want
want_after a wanted longest peer (Ok done) = Some (new_want wanted longest peer)
want_after a wanted longest peer (Err fault) = a.want

pub want_alone : (a : AgentState) (wanted longest : ℕ) (peer : Locator) (r : Result (Unit {0}) WantFault)
    → after_want a wanted longest peer r ≡ record a { want = want_after a wanted longest peer r }
want_alone a wanted longest peer (Ok done) = refl
want_alone a wanted longest peer (Err fault) = refl

pub nothing_changes : (w : WorldState) (node : ℕ) → WantChanges w w node
nothing_changes w node = record { others = λ n apart. refl; own = λ seat e. (seat.agent.want, e); rest = refl }

pub wanted_changes : (w : WorldState) (node : ℕ) (seat : Seat) (wanted longest : ℕ) (peer : Locator) → 1 ≤ node → seat_at w node ≡ Some seat
    → WantChanges w (after_telling w (record { node = node; what = agent.wanted wanted longest peer }) (Some seat)) node
wanted_changes w node seat wanted longest peer least here = record {
  others = (put_same node w (with_seat w node put) put least refl).others;
  own = λ old e. (
    want_after old.agent wanted longest peer (want_reply old.agent),
    told_here w (record { node = node; what = agent.wanted wanted longest peer }) seat old here e
        ∙ ap (λ a. Some (seat_with old.core a)) (want_alone old.agent wanted longest peer (want_reply old.agent)),
  );
  rest = refl;
}
  where
    put : Seat
    put = seat_with seat.core (after_want seat.agent wanted longest peer (want_reply seat.agent))

pub wants_change_wants : WantsChangeWants
unfolding after_event
wants_change_wants s w node wanted longest peer c = by_peer (numbered s.peers peer) where
  life : ℕ
  life = present_life w node

  by_seat : (to : Locator) (o : Option Seat) → seat_at w life ≡ o → WantChanges w (after_telling w (record { node = life; what = agent.wanted wanted longest to }) o) life
  by_seat to None here = nothing_changes w life
  by_seat to (Some seat) here = wanted_changes w life seat wanted longest to (present_least w node) here

  by_peer : (o : Option Locator) → WantChanges w (after_told w (want_told life wanted longest o)) life
  by_peer None = nothing_changes w life
  by_peer (Some to) = by_seat to (seat_at w life) refl
