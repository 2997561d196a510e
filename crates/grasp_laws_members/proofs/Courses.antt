-- Moment after moment: turns lead to each network, and each member that runs stands as it does after what happened at it.
use Rattle.std.proofs.Common.{◌≡◌, ◌≢◌, ◌⊎◌, inl, inr, refl, sym, ap, ◌∙◌, subst, ℕ, ◌==◌, Bool, true, List, [], ◌∷◌, length, Some, All}
use Rattle.std.proofs.lemmas.Bool.{cases_eq, eq-eqb, ne_eqb}
use Rattle.std.proofs.lemmas.List.Elements.{All-nil, All-cons}
use Rattle.std.proofs.lemmas.Option.{same_Some}
use Rattle.grasp_laws_members.proofs.Steps.{Goes, seat_then, taking_goes, taking_reached, wanting_goes, wanting_reached}
use Rattle.grasp_laws_members.specs.Acts.{Act, AreActs, Taken, seat_after, took, wanted}
use Rattle.grasp_laws_members.specs.Courses.{AreRunning, IsCourse, MayBe, Moment, acts_at, after_moment, at_node, course_after, elsewhere, joined_at, networks_of, of_want}
use Rattle.grasp_laws_members.specs.Laws.{MembersTakeTurns}
use Rattle.grasp_laws_network.proofs.Going.{turned_reached}
use Rattle.grasp_laws_network.proofs.Lists.{numbered_there}
use Rattle.grasp_laws_network.proofs.Lives.{same_present}
use Rattle.grasp_laws_network.proofs.LivesKept.{lives_are_kept}
use Rattle.grasp_model_network.specs.Plans.{IsNode}
use Rattle.grasp_model_network.specs.Runs.{IsReached}
use Rattle.grasp_model_network.specs.Setting.{Setting}
use Rattle.grasp_model_network.specs.Turns.{TakenTurn, after_turn, world_turned}
use Rattle.grasp_model_network.specs.World.{Seat, WorldState, member_of, present_life, seat_at}
use Rattle.grasp_model_network.specs.declared.event.Event.{Event}
use Rattle.grasp_types.specs.declared.address.Locator.{Locator}

-- ---- members

-- members in one life are one
one_member : (s : Setting) (w : WorldState) → IsReached s w → (m n : ℕ) → IsNode (length s.members) m → IsNode (length s.members) n → present_life w m ≡ present_life w n → m ≡ n
one_member s w r m n is there same = sym ((lives_are_kept s w r).own m is) ∙ (ap (λ (life : ℕ). member_of w life) same ∙ (lives_are_kept s w r).own n there)

-- what happened at a seat first
acts_then : (seat : Seat) (a : Act) (xs : List Act) → AreActs seat.core seat.agent (a ∷ xs) → AreActs (seat_then seat a).core (seat_then seat a).agent xs
acts_then seat (took t) xs are = are.1
acts_then seat (wanted short longest peer) xs are = are

seat_then_after : (seat : Seat) (a : Act) (xs : List Act) → seat_after (seat_then seat a) xs ≡ seat_after seat (a ∷ xs)
seat_then_after seat (took t) xs = refl
seat_then_after seat (wanted short longest peer) xs = refl

-- ---- a course

pub record Comes (runs : ℕ → Bool) (s : Setting) (w : WorldState) (ms : List Moment) : Type 0 where
  pub reached : All (IsReached s) (networks_of s w ms)
  pub seats : (node : ℕ) (seat : Seat) → runs node ≡ true → seat_at w (present_life w node) ≡ Some seat
      → seat_at (course_after s w ms) (present_life (course_after s w ms) node) ≡ Some (seat_after seat (acts_at node ms))

-- after a moment at one member
module _ (runs : ℕ → Bool) (s : Setting) (w : WorldState) (m : Moment) (ms : List Moment) (k : ℕ) (a : Act) (r : IsReached s w) (running : AreRunning runs s w (m ∷ ms)) (is_running : runs k ≡ true)
    (at : (n : ℕ) → acts_at n (m ∷ ms) ≡ joined_at (k == n) a (acts_at n ms)) (old : Seat) (here : seat_at w (present_life w k) ≡ Some old)
    (goes : Goes w (after_moment s w m) (present_life w k) (seat_then old a)) where
  abbrev x : WorldState
  x = after_moment s w m

  own_acts : acts_at k (m ∷ ms) ≡ a ∷ acts_at k ms
  own_acts = at k ∙ ap (λ (b : Bool). joined_at b a (acts_at k ms)) (eq-eqb k k refl)

  other_acts : (n : ℕ) → n ≢ k → acts_at n (m ∷ ms) ≡ acts_at n ms
  other_acts n apart = at n ∙ ap (λ (b : Bool). joined_at b a (acts_at n ms)) (ne_eqb k n (λ e. apart (sym e)))

  same_life : (n : ℕ) → present_life x n ≡ present_life w n
  same_life n = same_present w x n goes.lives

  other_seat : (n : ℕ) → runs n ≡ true → n ≢ k → seat_at x (present_life x n) ≡ seat_at w (present_life w n)
  other_seat n is apart =
      ap (seat_at x) (same_life n)
      ∙ goes.others (present_life w n) (λ e. apart (one_member s w r n k (running.members n is) (running.members k is_running) e))

  pub moment_runs : AreRunning runs s x ms
  moment_runs = record { members = running.members; acts = λ n seat is there. by_node n seat is there (cases_eq n k) } where
    own : (seat : Seat) → seat_at x (present_life x k) ≡ Some seat → AreActs seat.core seat.agent (acts_at k ms)
    own seat there =
        subst (λ (y : Seat). AreActs y.core y.agent (acts_at k ms)) (same_Some (seat_then old a) seat (sym goes.own ∙ (ap (seat_at x) (sym (same_life k)) ∙ there)))
        (acts_then old a (acts_at k ms) (subst (λ (xs : List Act). AreActs old.core old.agent xs) own_acts (running.acts k old is_running here)))

    by_node : (n : ℕ) (seat : Seat) → runs n ≡ true → seat_at x (present_life x n) ≡ Some seat → (n ≡ k) ⊎ (n ≡ k → ⊥) → AreActs seat.core seat.agent (acts_at n ms)
    by_node n seat is there (inl same) =
        subst (λ (i : ℕ). AreActs seat.core seat.agent (acts_at i ms)) (sym same) (own seat (subst (λ (i : ℕ). seat_at x (present_life x i) ≡ Some seat) same there))
    by_node n seat is there (inr apart) =
        subst (λ (xs : List Act). AreActs seat.core seat.agent xs) (other_acts n apart) (running.acts n seat is (sym (other_seat n is apart) ∙ there))

  moment_seats : Comes runs s x ms → (n : ℕ) (seat : Seat) → runs n ≡ true → seat_at w (present_life w n) ≡ Some seat
      → seat_at (course_after s x ms) (present_life (course_after s x ms) n) ≡ Some (seat_after seat (acts_at n (m ∷ ms)))
  moment_seats c n seat is there = by_node (cases_eq n k) where
    own : (y : Seat) → seat_at w (present_life w k) ≡ Some y → seat_at (course_after s x ms) (present_life (course_after s x ms) k) ≡ Some (seat_after y (acts_at k (m ∷ ms)))
    own y is_there =
        c.seats k (seat_then old a) is_running (ap (seat_at x) (same_life k) ∙ goes.own)
        ∙ (ap Some (seat_then_after old a (acts_at k ms))
        ∙ (ap (λ (xs : List Act). Some (seat_after old xs)) (sym own_acts) ∙ ap (λ (z : Seat). Some (seat_after z (acts_at k (m ∷ ms)))) (same_Some old y (sym here ∙ is_there))))

    by_node : (n ≡ k) ⊎ (n ≡ k → ⊥) → seat_at (course_after s x ms) (present_life (course_after s x ms) n) ≡ Some (seat_after seat (acts_at n (m ∷ ms)))
    by_node (inl same) =
        subst (λ (i : ℕ). seat_at (course_after s x ms) (present_life (course_after s x ms) i) ≡ Some (seat_after seat (acts_at i (m ∷ ms)))) (sym same)
        (own seat (subst (λ (i : ℕ). seat_at w (present_life w i) ≡ Some seat) same there))
    by_node (inr apart) =
        c.seats n seat is (other_seat n is apart ∙ there) ∙ ap (λ (xs : List Act). Some (seat_after seat xs)) (sym (other_acts n apart))

  pub moment_comes : Comes runs s x ms → Comes runs s w (m ∷ ms)
  moment_comes c = record { reached = All-cons (IsReached s) w (networks_of s x ms) r c.reached; seats = λ n seat is there. moment_seats c n seat is there }

-- after a turn elsewhere
module _ (runs : ℕ → Bool) (s : Setting) (w : WorldState) (t : TakenTurn) (ms : List Moment) (r : IsReached s w) (running : AreRunning runs s w (elsewhere t ∷ ms)) (may : MayBe runs s w (elsewhere t)) where
  abbrev z : WorldState
  z = after_turn s w t.turn t.choice

  turn_is : after_moment s w (elsewhere t) ≡ z
  unfolding world_turned
  turn_is = refl

  seat_same : (n : ℕ) → runs n ≡ true → seat_at z (present_life z n) ≡ seat_at w (present_life w n)
  seat_same n is = ap (seat_at z) (may.1 n is).0 ∙ (may.1 n is).1

  turn_runs : AreRunning runs s z ms
  turn_runs = record { members = running.members; acts = λ n seat is there. running.acts n seat is (sym (seat_same n is) ∙ there) }

  pub elsewhere_runs : AreRunning runs s (after_moment s w (elsewhere t)) ms
  elsewhere_runs = subst (λ (y : WorldState). AreRunning runs s y ms) (sym turn_is) turn_runs

  pub elsewhere_reached : IsReached s (after_moment s w (elsewhere t))
  elsewhere_reached = subst (IsReached s) (sym turn_is) (turned_reached s w t.turn t.choice r may.0)

  pub elsewhere_comes : Comes runs s (after_moment s w (elsewhere t)) ms → Comes runs s w (elsewhere t ∷ ms)
  elsewhere_comes c = record {
    reached = All-cons (IsReached s) w (networks_of s (after_moment s w (elsewhere t)) ms) r c.reached;
    seats = λ n seat is there. c.seats n seat is (subst (λ (y : WorldState). seat_at y (present_life y n) ≡ Some seat) (sym turn_is) (seat_same n is ∙ there));
  }

-- the rest of a course, once the network after this moment is reached
abbrev Behind : (ℕ → Bool) → Setting → WorldState → Moment → List Moment → Type 0
Behind runs s w m ms = IsReached s (after_moment s w m) → AreRunning runs s (after_moment s w m) ms → Comes runs s (after_moment s w m) ms

module _ (runs : ℕ → Bool) (s : Setting) (w : WorldState) (ms : List Moment) (r : IsReached s w) where
  taking_comes : (k : ℕ) (t : Taken) (e : Event) → AreRunning runs s w (at_node k t e ∷ ms) → MayBe runs s w (at_node k t e) → Behind runs s w (at_node k t e) ms → Comes runs s w (at_node k t e ∷ ms)
  taking_comes k t e running may behind = at_seat (numbered_there w.seats (present_life w k) ((lives_are_kept s w r).present k member)) where
    member : IsNode (length s.members) k
    member = running.members k may.0

    at : (n : ℕ) → acts_at n (at_node k t e ∷ ms) ≡ joined_at (k == n) (took t) (acts_at n ms)
    at n = refl

    at_seat : (seat : Seat) × (seat_at w (present_life w k) ≡ Some seat) → Comes runs s w (at_node k t e ∷ ms)
    at_seat f =
        let acts : AreActs f.0.core f.0.agent (took t ∷ acts_at k ms)
        = subst (λ (xs : List Act). AreActs f.0.core f.0.agent xs) (ap (λ (b : Bool). joined_at b (took t) (acts_at k ms)) (eq-eqb k k refl)) (running.acts k f.0 may.0 f.1) in
        let goes : Goes w (after_moment s w (at_node k t e)) (present_life w k) (seat_then f.0 (took t)) = taking_goes s w k f.0 f.1 r member t acts.0 e may.1 in
        moment_comes runs s w (at_node k t e) ms k (took t) r running may.0 at f.0 f.1 goes
        (behind (taking_reached s w k f.0 f.1 r member t acts.0 e may.1 may.2) (moment_runs runs s w (at_node k t e) ms k (took t) r running may.0 at f.0 f.1 goes))

  wanting_comes : (k short longest : ℕ) (peer : Locator) (number : ℕ) → AreRunning runs s w (of_want k short longest peer number ∷ ms) → MayBe runs s w (of_want k short longest peer number)
      → Behind runs s w (of_want k short longest peer number) ms → Comes runs s w (of_want k short longest peer number ∷ ms)
  wanting_comes k short longest peer number running may behind = at_seat (numbered_there w.seats (present_life w k) ((lives_are_kept s w r).present k member)) where
    member : IsNode (length s.members) k
    member = running.members k may.0

    at : (n : ℕ) → acts_at n (of_want k short longest peer number ∷ ms) ≡ joined_at (k == n) (wanted short longest peer) (acts_at n ms)
    at n = refl

    at_seat : (seat : Seat) × (seat_at w (present_life w k) ≡ Some seat) → Comes runs s w (of_want k short longest peer number ∷ ms)
    at_seat f =
        let goes : Goes w (after_moment s w (of_want k short longest peer number)) (present_life w k) (seat_then f.0 (wanted short longest peer))
        = wanting_goes s w k short longest peer number f.0 f.1 r may.1 in
        moment_comes runs s w (of_want k short longest peer number) ms k (wanted short longest peer) r running may.0 at f.0 f.1 goes
        (behind (wanting_reached s w k short longest peer number f.0 f.1 r may.1 member may.2)
        (moment_runs runs s w (of_want k short longest peer number) ms k (wanted short longest peer) r running may.0 at f.0 f.1 goes))

courses : (runs : ℕ → Bool) (s : Setting) (ms : List Moment) (w : WorldState) → IsReached s w → AreRunning runs s w ms → IsCourse runs s w ms → Comes runs s w ms
courses runs s [] w r running course = record {
  reached = All-cons (IsReached s) w [] r (All-nil (IsReached s));
  seats = λ node seat is here. here;
}
courses runs s (at_node k t e ∷ ms) w r running course =
    taking_comes runs s w ms r k t e running course.0 (λ next so. courses runs s ms (after_moment s w (at_node k t e)) next so course.1)
courses runs s (of_want k short longest peer number ∷ ms) w r running course =
    wanting_comes runs s w ms r k short longest peer number running course.0 (λ next so. courses runs s ms (after_moment s w (of_want k short longest peer number)) next so course.1)
courses runs s (elsewhere t ∷ ms) w r running course =
    elsewhere_comes runs s w t ms r running course.0
    (courses runs s ms (after_moment s w (elsewhere t)) (elsewhere_reached runs s w t ms r running course.0) (elsewhere_runs runs s w t ms r running course.0) course.1)

pub members_take_turns : MembersTakeTurns
members_take_turns = record {
  reached = λ runs s w ms r running course. (courses runs s ms w r running course).reached;
  seats = λ runs s w ms r running course node seat is here. (courses runs s ms w r running course).seats node seat is here;
}
