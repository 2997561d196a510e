-- Moment after moment, also where members begin anew: turns lead to each network, and each member that runs stands as it does after its lives.
use Rattle.std.proofs.Common.{◌≡◌, ◌≢◌, ◌⊎◌, inl, inr, refl, sym, ap, ◌∙◌, subst, ℕ, Bool, true, List, [], ◌∷◌, length, Some, All}
use Rattle.std.proofs.lemmas.Bool.{cases_eq, eq-eqb, ne_eqb}
use Rattle.std.proofs.lemmas.List.Elements.{All-cons, All-head, All-nil, All-tail}
use Rattle.std.proofs.lemmas.Option.{same_Some}
use Rattle.grasp_laws_lives.proofs.Lives.{acts_first, first_acts, last_then, lives_then}
use Rattle.grasp_laws_lives.specs.Courses.{AreLives, AreLiving, IsLivedCourse, LifeMoment, Lives, anew, begun, lives_after, lives_at, networks_lived, seat_anew, seat_lived, within}
use Rattle.grasp_laws_lives.specs.Laws.{LivesTakeTurns}
use Rattle.grasp_laws_members.specs.Acts.{AreActs, seat_after}
use Rattle.grasp_laws_members.specs.Courses.{AreRunning, IsCourse, MayBe, Moment, after_moment}
use Rattle.grasp_laws_members.specs.Laws.{MembersTakeTurns}
use Rattle.grasp_laws_network.proofs.Going.{restarted_reached}
use Rattle.grasp_laws_network.proofs.Lists.{numbered_there}
use Rattle.grasp_laws_network.proofs.Lives.{others_present}
use Rattle.grasp_laws_network.proofs.LivesKept.{lives_are_kept}
use Rattle.grasp_laws_network.proofs.TurnsDo.{restarts_begin_anew}
use Rattle.grasp_laws_network.specs.TurnsDo.{RestartDoes}
use Rattle.grasp_model_network.specs.Plans.{IsNode}
use Rattle.grasp_model_network.specs.Restarting.{MayRestart, after_restart}
use Rattle.grasp_model_network.specs.Runs.{IsReached}
use Rattle.grasp_model_network.specs.Setting.{Member, Setting, numbered}
use Rattle.grasp_model_network.specs.World.{Seat, WorldState, member_of, present_life, seat_at}
use Rattle.grasp_pool.specs.declared.image.PoolImage.{PoolImage}

-- ---- members

-- members in one life are one
one_member : (s : Setting) (w : WorldState) → IsReached s w → (m n : ℕ) → IsNode (length s.members) m → IsNode (length s.members) n → present_life w m ≡ present_life w n → m ≡ n
one_member s w r m n is there same = sym ((lives_are_kept s w r).own m is) ∙ (ap (λ (life : ℕ). member_of w life) same ∙ (lives_are_kept s w r).own n there)

-- each has a present life
member_there : (s : Setting) (w : WorldState) → IsReached s w → (node : ℕ) → IsNode (length s.members) node → (seat : Seat) × (seat_at w (present_life w node) ≡ Some seat)
member_there s w r node member = numbered_there w.seats (present_life w node) ((lives_are_kept s w r).present node member)

-- ---- a course

pub record Comes (runs : ℕ → Bool) (s : Setting) (w : WorldState) (ms : List LifeMoment) : Type 0 where
  pub reached : All (IsReached s) (networks_lived s w ms)
  pub seats : (node : ℕ) (m : Member) (seat : Seat) → runs node ≡ true → numbered s.members node ≡ Some m → seat_at w (present_life w node) ≡ Some seat
      → seat_at (lives_after s w ms) (present_life (lives_after s w ms) node) ≡ Some (seat_lived m.plan seat (lives_at node ms))

-- ---- a moment within lives

module _ (take : MembersTakeTurns) (runs : ℕ → Bool) (s : Setting) (w : WorldState) (m : Moment) (ms : List LifeMoment) (r : IsReached s w) (living : AreLiving runs s w (within m ∷ ms))
    (may : MayBe runs s w m) where
  abbrev x : WorldState
  x = after_moment s w m

  single : IsCourse runs s w (m ∷ [])
  single = (may, tt)

  running : AreRunning runs s w (m ∷ [])
  running = record { members = living.members; acts = λ node seat is here. by_member node seat is here (numbered_there s.members node (living.members node is)) } where
    by_member : (node : ℕ) (seat : Seat) → runs node ≡ true → seat_at w (present_life w node) ≡ Some seat → (y : Member) × (numbered s.members node ≡ Some y)
        → AreActs seat.core seat.agent (first_acts node m)
    by_member node seat is here f = acts_first f.0.plan seat node m (lives_at node ms) (living.lives node f.0 seat is f.1 here)

  reached_x : IsReached s x
  reached_x = All-head (IsReached s) x [] (All-tail (IsReached s) w (x ∷ []) (take.reached runs s w (m ∷ []) r running single))

  seat_x : (node : ℕ) (seat : Seat) → runs node ≡ true → seat_at w (present_life w node) ≡ Some seat → seat_at x (present_life x node) ≡ Some (seat_after seat (first_acts node m))
  seat_x node seat is here = take.seats runs s w (m ∷ []) r running single node seat is here

  living_x : AreLiving runs s x ms
  living_x = record { members = living.members; lives = λ node y seat is found here. by_seat node y seat is found here (member_there s w r node (living.members node is)) } where
    by_seat : (node : ℕ) (y : Member) (seat : Seat) → runs node ≡ true → numbered s.members node ≡ Some y → seat_at x (present_life x node) ≡ Some seat
        → (old : Seat) × (seat_at w (present_life w node) ≡ Some old) → AreLives y.plan seat (lives_at node ms)
    by_seat node y seat is found here f =
        subst (λ (z : Seat). AreLives y.plan z (lives_at node ms)) (same_Some (seat_after f.0 (first_acts node m)) seat (sym (seat_x node f.0 is f.1) ∙ here))
        (lives_then y.plan f.0 node m (lives_at node ms) (living.lives node y f.0 is found f.1))

  pub within_reached : IsReached s (after_moment s w m)
  within_reached = reached_x

  pub within_living : AreLiving runs s (after_moment s w m) ms
  within_living = living_x

  pub within_comes : Comes runs s (after_moment s w m) ms → Comes runs s w (within m ∷ ms)
  within_comes c = record {
    reached = All-cons (IsReached s) w (networks_lived s x ms) r c.reached;
    seats = λ node y seat is found here.
        c.seats node y (seat_after seat (first_acts node m)) is found (seat_x node seat is here) ∙ ap Some (last_then y.plan seat node m (lives_at node ms));
  }

-- ---- a member begins anew

module _ (runs : ℕ → Bool) (s : Setting) (w : WorldState) (k : ℕ) (image : PoolImage) (ms : List LifeMoment) (r : IsReached s w) (living : AreLiving runs s w (anew k image ∷ ms))
    (is_running : runs k ≡ true) where
  abbrev y : WorldState
  y = after_restart s w k image

  who : (m : Member) × (numbered s.members k ≡ Some m)
  who = numbered_there s.members k (living.members k is_running)

  old : (seat : Seat) × (seat_at w (present_life w k) ≡ Some seat)
  old = member_there s w r k (living.members k is_running)

  own_lives : lives_at k (anew k image ∷ ms) ≡ begun true image (lives_at k ms)
  own_lives = ap (λ (b : Bool). begun b image (lives_at k ms)) (eq-eqb k k refl)

  other_lives : (n : ℕ) → n ≢ k → lives_at n (anew k image ∷ ms) ≡ lives_at n ms
  other_lives n apart = ap (λ (b : Bool). begun b image (lives_at n ms)) (ne_eqb k n (λ e. apart (sym e)))

  own_are : (m : Member) (seat : Seat) → numbered s.members k ≡ Some m → seat_at w (present_life w k) ≡ Some seat → AreLives m.plan seat (begun true image (lives_at k ms))
  own_are m seat found here = subst (AreLives m.plan seat) own_lives (living.lives k m seat is_running found here)

  may : MayRestart s w k image
  may = record { member = who.0; found = who.1; seat = old.0; here = old.1; image_is = (own_are who.0 old.0 who.1 old.1).1.0 }

  does : RestartDoes s w k image y
  does = restarts_begin_anew s w k image r may

  other_seat : (n : ℕ) → runs n ≡ true → n ≢ k → seat_at y (present_life y n) ≡ seat_at w (present_life w n)
  other_seat n is apart =
      ap (λ (life : ℕ). seat_at y life) (others_present w y k does.lives n apart)
      ∙ does.others (present_life w n) (λ same. apart (one_member s w r n k (living.members n is) (living.members k is_running) same))
      ((lives_are_kept s w r).present n (living.members n is))

  own_seat : (m : Member) → numbered s.members k ≡ Some m → seat_at y (present_life y k) ≡ Some (seat_anew m.plan image)
  own_seat m found = does.begun m found

  pub anew_reached : IsReached s (after_restart s w k image)
  anew_reached = restarted_reached s w k image r may

  pub anew_living : AreLiving runs s (after_restart s w k image) ms
  anew_living = record { members = living.members; lives = λ n m seat is found here. by_node n m seat is found here (cases_eq n k) } where
    own : (m : Member) (seat : Seat) → numbered s.members k ≡ Some m → seat_at y (present_life y k) ≡ Some seat → AreLives m.plan seat (lives_at k ms)
    own m seat found here =
        subst (λ (z : Seat). AreLives m.plan z (lives_at k ms)) (same_Some (seat_anew m.plan image) seat (sym (own_seat m found) ∙ here))
        (let are = own_are m old.0 found old.1 in (are.1.1, are.1.2))

    by_node : (n : ℕ) (m : Member) (seat : Seat) → runs n ≡ true → numbered s.members n ≡ Some m → seat_at y (present_life y n) ≡ Some seat → (n ≡ k) ⊎ (n ≡ k → ⊥)
        → AreLives m.plan seat (lives_at n ms)
    by_node n m seat is found here (inl same) =
        subst (λ (i : ℕ). AreLives m.plan seat (lives_at i ms)) (sym same)
        (own m seat (subst (λ (i : ℕ). numbered s.members i ≡ Some m) same found) (subst (λ (i : ℕ). seat_at y (present_life y i) ≡ Some seat) same here))
    by_node n m seat is found here (inr apart) =
        subst (AreLives m.plan seat) (other_lives n apart) (living.lives n m seat is found (sym (other_seat n is apart) ∙ here))

  anew_seats : Comes runs s y ms → (n : ℕ) (m : Member) (seat : Seat) → runs n ≡ true → numbered s.members n ≡ Some m → seat_at w (present_life w n) ≡ Some seat
      → seat_at (lives_after s y ms) (present_life (lives_after s y ms) n) ≡ Some (seat_lived m.plan seat (lives_at n (anew k image ∷ ms)))
  anew_seats c n m seat is found here = by_node (cases_eq n k) where
    own : numbered s.members k ≡ Some m → seat_at (lives_after s y ms) (present_life (lives_after s y ms) k) ≡ Some (seat_lived m.plan seat (lives_at k (anew k image ∷ ms)))
    own found = c.seats k m (seat_anew m.plan image) is_running found (own_seat m found) ∙ ap (λ (l : Lives). Some (seat_lived m.plan seat l)) (sym own_lives)

    by_node : (n ≡ k) ⊎ (n ≡ k → ⊥) → seat_at (lives_after s y ms) (present_life (lives_after s y ms) n) ≡ Some (seat_lived m.plan seat (lives_at n (anew k image ∷ ms)))
    by_node (inl same) =
        subst (λ (i : ℕ). seat_at (lives_after s y ms) (present_life (lives_after s y ms) i) ≡ Some (seat_lived m.plan seat (lives_at i (anew k image ∷ ms)))) (sym same)
        (own (subst (λ (i : ℕ). numbered s.members i ≡ Some m) same found))
    by_node (inr apart) =
        c.seats n m seat is found (other_seat n is apart ∙ here) ∙ ap (λ (l : Lives). Some (seat_lived m.plan seat l)) (sym (other_lives n apart))

  pub anew_comes : Comes runs s (after_restart s w k image) ms → Comes runs s w (anew k image ∷ ms)
  anew_comes c = record { reached = All-cons (IsReached s) w (networks_lived s y ms) r c.reached; seats = anew_seats c }

-- ---- all of it

pub comes : (take : MembersTakeTurns) (runs : ℕ → Bool) (s : Setting) (ms : List LifeMoment) (w : WorldState) → IsReached s w → AreLiving runs s w ms → IsLivedCourse runs s w ms
    → Comes runs s w ms
comes take runs s [] w r living course = record { reached = All-cons (IsReached s) w [] r (All-nil (IsReached s)); seats = λ node m seat is found here. here }
comes take runs s (within m ∷ ms) w r living course =
    within_comes take runs s w m ms r living course.0
    (comes take runs s ms (after_moment s w m) (within_reached take runs s w m ms r living course.0) (within_living take runs s w m ms r living course.0) course.1)
comes take runs s (anew k image ∷ ms) w r living course =
    anew_comes runs s w k image ms r living course.0
    (comes take runs s ms (after_restart s w k image) (anew_reached runs s w k image ms r living course.0) (anew_living runs s w k image ms r living course.0) course.1)

pub lives_take_turns : MembersTakeTurns → LivesTakeTurns
lives_take_turns take = record {
  reached = λ runs s w ms r living course. (comes take runs s ms w r living course).reached;
  seats = λ runs s w ms r living course. (comes take runs s ms w r living course).seats;
}
