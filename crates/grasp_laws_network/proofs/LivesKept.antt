-- The lives of every network that turns lead to: whose each is, and that one which has ended holds nothing and has nothing to offer.
use Rattle.std.proofs.Common.{◌≡◌, ◌≢◌, ◌⊎◌, inl, inr, refl, sym, ap, ◌∙◌, subst, arith, ℕ, ◌+◌, ◌≤◌, true, false, [], length, Contains, Some, None}
use Rattle.std.proofs.lemmas.Bool.{cases_eq, both_ways}
use Rattle.std.proofs.lemmas.List.{length_push}
use Rattle.std.proofs.lemmas.List.Elements.{All-nil, All-filter, All-contains, All-weaker}
use Rattle.std.proofs.lemmas.Option.{same_Some}
use Rattle.grasp_agent.proofs.Retiring.{retired_act, retired_unsent}
use Rattle.grasp_agent.specs.Reopening.{retired}
use Rattle.grasp_agent.specs.States.{AgentState, unsent_of}
use Rattle.grasp_pool.specs.declared.image.PoolImage.{PoolImage}
use Rattle.grasp_types.specs.Prefix.{AddressBlock as Prefix}
use Rattle.grasp_laws_network.proofs.Appended.{appended}
use Rattle.grasp_laws_network.proofs.Ended.{AgentStays, event_agents}
use Rattle.grasp_laws_network.proofs.Here.{numbered_within}
use Rattle.grasp_laws_network.proofs.Lists.{numbered_there}
use Rattle.grasp_laws_network.proofs.Lives.{OfEachLife, member_is, member_there, ended_apart, same_present, same_member, same_is_present, begun_present, begun_member, begun_is_present, others_present, member_stays, ended_now, stays_present, stays_ended, was_present, first_count, first_member, first_present, first_is_present}
use Rattle.grasp_laws_network.proofs.Offers.{AreOfLives, event_of_lives}
use Rattle.grasp_laws_network.proofs.Reached.{reached_keeps}
use Rattle.grasp_laws_network.proofs.Restarted.{Restarting, restarting_is, IsRestarted, retired_seat, begun_seat}
use Rattle.grasp_laws_network.proofs.SameLives.{event_lives}
use Rattle.grasp_laws_network.proofs.Settled.{Settling, settling_is}
use Rattle.grasp_laws_network.proofs.Staying.{first_own, first_seats, seats_stay_each}
use Rattle.grasp_laws_network.specs.Lives.{TurnsKeep, LivesStand, LivesAreKept}
use Rattle.grasp_model_network.specs.Events.{IsFit, Occurs, after_event}
use Rattle.grasp_model_network.specs.Offers.{is_kept}
use Rattle.grasp_model_network.specs.Plans.{IsNode}
use Rattle.grasp_model_network.specs.Restarting.{after_restart}
use Rattle.grasp_model_network.specs.Runs.{IsReached, first_world}
use Rattle.grasp_model_network.specs.Setting.{Setting, numbered}
use Rattle.grasp_model_network.specs.Settling.{is_other, IsDead, after_settle}
use Rattle.grasp_model_network.specs.Visits.{Choice}
use Rattle.grasp_model_network.specs.World.{Offered, Seat, WorldState, present_life, member_of, is_present, seat_at}
use Rattle.grasp_model_network.specs.declared.event.Event.{Event}

-- ---- an agent of a life that has ended

-- it holds nothing, and has no act to do and no return to request
pub record IsOver (a : AgentState) : Type 0 where
  pub free : a.pool.free ≡ []
  pub act : a.act ≡ None
  pub back : unsent_of a.back ≡ None

pub retired_over : (a : AgentState) → IsOver (retired a)
retired_over a = record { free = refl; act = retired_act a; back = retired_unsent a }

-- each life that has ended is over
abbrev pub EndedAreOver : WorldState → Type 0
EndedAreOver w = OfEachLife (λ life seat. is_present w life ≡ false → IsOver seat.agent) w

-- ---- what every network keeps

-- of each life it is known whose it is, each member has a present one, those that have ended are over, and each offer is of a life
pub record LivesHold (s : Setting) (w : WorldState) : Type 0 where
  pub count : length w.lives ≡ length w.seats
  pub members : (life node : ℕ) → numbered w.lives life ≡ Some node → IsNode (length s.members) node
  pub present : (node : ℕ) → IsNode (length s.members) node → IsNode (length w.seats) (present_life w node)
  pub own : (node : ℕ) → IsNode (length s.members) node → member_of w (present_life w node) ≡ node
  pub over : EndedAreOver w
  pub offers : AreOfLives (length w.seats) w.offers

-- ---- the first network

first_within : (s : Setting) (life : ℕ) (seat : Seat) → seat_at (first_world s) life ≡ Some seat → IsNode (length s.members) life
first_within s life seat here = subst (λ n. IsNode n life) (first_seats s) (numbered_within (first_world s).seats life seat here)

first_life_of : (s : Setting) (life node : ℕ) → numbered (first_world s).lives life ≡ Some node → life ≡ node
first_life_of s life node e = same_Some life node (sym (first_own s life (subst (λ n. IsNode n life) (first_count s) (numbered_within (first_world s).lives life node e))) ∙ e)

first_offers : (s : Setting) → (first_world s).offers ≡ []
unfolding first_world
first_offers s = refl

first_hold : (s : Setting) → LivesHold s (first_world s)
first_hold s = record {
  count = first_count s ∙ sym (first_seats s);
  members = λ life node e.
      subst (λ n. IsNode (length s.members) n) (first_life_of s life node e) (subst (λ n. IsNode n life) (first_count s) (numbered_within (first_world s).lives life node e));
  present = λ node h. subst (λ n. IsNode n (present_life (first_world s) node)) (sym (first_seats s)) (subst (λ n. IsNode (length s.members) n) (sym (first_present s node h)) h);
  own = λ node h. ap (λ n. member_of (first_world s) n) (first_present s node h) ∙ first_member s node h;
  over = λ life seat here gone. absurd (both_ways (is_present (first_world s) life) gone (first_is_present s life (first_within s life seat here)));
  offers = subst (λ os. AreOfLives (length (first_world s).seats) os) (sym (first_offers s)) (All-nil (λ o. IsNode (length (first_world s).seats) o.node));
}

-- ---- an event

-- a network with the same lives, and as many seats, whose ended lives are over and whose offers are of lives
same_hold : (s : Setting) (w x : WorldState) → x.lives ≡ w.lives → length x.seats ≡ length w.seats → EndedAreOver x → AreOfLives (length x.seats) x.offers → LivesHold s w → LivesHold s x
same_hold s w x lives seats over offers h = record {
  count = ap length lives ∙ (h.count ∙ sym seats);
  members = λ life node e. h.members life node (ap (λ ks. numbered ks life) (sym lives) ∙ e);
  present = λ node is. subst (λ n. IsNode n (present_life x node)) (sym seats) (subst (λ n. IsNode (length w.seats) n) (sym (same_present w x node lives)) (h.present node is));
  own = λ node is. same_member w x (present_life x node) lives ∙ (ap (λ n. member_of w n) (same_present w x node lives) ∙ h.own node is);
  over = over;
  offers = offers;
}

event_over : (s : Setting) (w : WorldState) (e : Event) (c : Choice) → IsFit s w e → LivesHold s w → EndedAreOver (after_event s w e c)
event_over s w e c fit h life seat here gone = by_case (event_agents s w e c fit life seat here) where
  was_gone : is_present w life ≡ false
  was_gone = sym (same_is_present w (after_event s w e c) life (event_lives s w e c)) ∙ gone

  by_case : AgentStays s w life seat.agent → IsOver seat.agent
  by_case (AgentStays.stays old there same) = subst IsOver same (h.over life old there was_gone)
  by_case (AgentStays.changes node member is) = absurd (ended_apart w node life (h.own node member) was_gone is)

event_hold : (s : Setting) (w : WorldState) (e : Event) (c : Choice) → Occurs s w e c → LivesHold s w → LivesHold s (after_event s w e c)
event_hold s w e c o h =
    same_hold s w (after_event s w e c) (event_lives s w e c) (seats_stay_each s w e c) (event_over s w e c o.fit h)
    (subst (λ n. AreOfLives n (after_event s w e c).offers) (sym (seats_stay_each s w e c)) (event_of_lives s w e c h.offers)) h

-- ---- a settling

-- the offer is of a life, so the member is one
settled_member : (s : Setting) (w : WorldState) (node : ℕ) (p : Prefix) (x : WorldState) → Settling w node p x → LivesHold s w → IsNode (length s.members) node
settled_member s w node p x t h = h.members t.offer.node node (member_there w t.offer.node node (subst (λ n. IsNode n t.offer.node) (sym h.count) within) t.is.member) where
  within : IsNode (length w.seats) t.offer.node
  within = All-contains (λ o. IsNode (length w.seats) o.node) w.offers t.offer h.offers t.is.listed

settle_hold : (s : Setting) (w : WorldState) (node : ℕ) (p : Prefix) (x : WorldState) → Settling w node p x → LivesHold s w → LivesHold s x
settle_hold s w node p x t h = same_hold s w x t.lives t.count over offers h where
  over : EndedAreOver x
  over life seat here gone = h.over life seat (sym (t.others life apart) ∙ here) was_gone where
    was_gone : is_present w life ≡ false
    was_gone = sym (same_is_present w x life t.lives) ∙ gone

    apart : life ≢ present_life w node
    apart = ended_apart w node life (h.own node (settled_member s w node p x t h)) was_gone

  offers : AreOfLives (length x.seats) x.offers
  offers =
      subst (λ n. AreOfLives n x.offers) (sym t.count)
      (subst (λ os. AreOfLives (length w.seats) os) (sym t.offers) (All-filter (is_other t.offer) (λ o. IsNode (length w.seats) o.node) w.offers h.offers))

-- ---- a restart

one_more : (count n : ℕ) → IsNode count n → IsNode (count + 1) n
one_more count n h = record { least = h.least; most = let m : n ≤ count = h.most in omega arith }

restart_hold : (s : Setting) (w : WorldState) (node : ℕ) (image : PoolImage) (x : WorldState) → Restarting s w node image x → LivesHold s w → LivesHold s x
restart_hold s w node image x r h = record { count = count; members = members; present = present; own = own; over = over; offers = offers } where
  member : IsNode (length s.members) node
  member = numbered_within s.members node r.member r.found

  -- the next number is that of the life that begins
  next : length w.lives + 1 ≡ length w.seats + 1
  next = ap (λ n. n + 1) h.count

  within : (life : ℕ) (seat : Seat) → seat_at w life ≡ Some seat → IsNode (length w.lives) life
  within life seat here = subst (λ n. IsNode n life) (sym h.count) (numbered_within w.seats life seat here)

  count : length x.lives ≡ length x.seats
  count = ap length r.lives ∙ (length_push w.lives node ∙ (next ∙ sym r.count))

  members : (life k : ℕ) → numbered x.lives life ≡ Some k → IsNode (length s.members) k
  members life k e = by_case (appended w.lives node life k (ap (λ ks. numbered ks life) (sym r.lives) ∙ e)) where
    by_case : (numbered w.lives life ≡ Some k) ⊎ ((life ≡ length w.lives + 1) × (node ≡ k)) → IsNode (length s.members) k
    by_case (inl old) = h.members life k old
    by_case (inr new) = subst (λ n. IsNode (length s.members) n) new.1 member

  begun_is : present_life x node ≡ length w.seats + 1
  begun_is = begun_present w x node r.lives ∙ next

  present : (k : ℕ) → IsNode (length s.members) k → IsNode (length x.seats) (present_life x k)
  present k is = by_member (cases_eq k node) where
    by_member : (k ≡ node) ⊎ (k ≡ node → ⊥) → IsNode (length x.seats) (present_life x k)
    by_member (inl same) =
        subst (λ n. IsNode (length x.seats) (present_life x n)) (sym same)
        (subst (λ n. IsNode (length x.seats) n) (sym begun_is) (numbered_within x.seats (length w.seats + 1) (begun_seat r.member image) r.begun))
    by_member (inr apart) =
        subst (λ n. IsNode n (present_life x k)) (sym r.count)
        (subst (λ n. IsNode (length w.seats + 1) n) (sym (others_present w x node r.lives k apart)) (one_more (length w.seats) (present_life w k) (h.present k is)))

  own : (k : ℕ) → IsNode (length s.members) k → member_of x (present_life x k) ≡ k
  own k is = by_member (cases_eq k node) where
    by_member : (k ≡ node) ⊎ (k ≡ node → ⊥) → member_of x (present_life x k) ≡ k
    by_member (inl same) = ap (λ n. member_of x (present_life x n)) same ∙ (ap (λ n. member_of x n) (begun_present w x node r.lives) ∙ (begun_member w x node r.lives ∙ sym same))
    by_member (inr apart) =
        ap (λ n. member_of x n) (others_present w x node r.lives k apart)
        ∙ (member_stays w x node r.lives (present_life w k) (subst (λ n. IsNode n (present_life w k)) (sym h.count) (h.present k is)) ∙ h.own k is)

  over : EndedAreOver x
  over life seat here gone = by_case (r.each life seat here) where
    by_case : IsRestarted w (present_life w node) (retired_seat r.seat) (begun_seat r.member image) life seat → IsOver seat.agent
    by_case (IsRestarted.ended life_is seat_is) = subst (λ (y : Seat). IsOver y.agent) seat_is (retired_over r.seat.agent)
    by_case (IsRestarted.goes_on apart there) =
        h.over life seat there (sym (stays_present w x node r.lives life (within life seat there) apart) ∙ gone)
    by_case (IsRestarted.begins life_is seat_is) =
        absurd (both_ways (is_present x life) gone (ap (λ n. is_present x n) (life_is ∙ sym next) ∙ begun_is_present w x node r.lives))

  offers : AreOfLives (length x.seats) x.offers
  offers =
      subst (λ n. AreOfLives n x.offers) (sym r.count)
      (All-weaker (λ o. IsNode (length w.seats) o.node) (λ o. IsNode (length w.seats + 1) o.node) (λ o is. one_more (length w.seats) o.node is) x.offers
      (subst (λ os. AreOfLives (length w.seats) os) (sym r.offers)
      (All-filter (is_kept (present_life w node) (retired r.seat.agent).pool) (λ o. IsNode (length w.seats) o.node) w.offers h.offers)))

-- ---- all turns

turns_hold : (s : Setting) → TurnsKeep s (LivesHold s)
turns_hold s = record {
  events = λ w e c o h. event_hold s w e c o h;
  settles = λ w node p dead h. settle_hold s w node p (after_settle w node p) (settling_is w node p dead) h;
  restarts = λ w node image may h. restart_hold s w node image (after_restart s w node image) (restarting_is s w node image may) h;
}

pub lives_hold : (s : Setting) (w : WorldState) → IsReached s w → LivesHold s w
lives_hold s w r = reached_keeps s (LivesHold s) (first_hold s) (turns_hold s) w r

pub lives_are_kept : LivesAreKept
lives_are_kept s w r = by_lives (lives_hold s w r) where
  by_lives : LivesHold s w → LivesStand s w
  by_lives h = record {
    count = h.count;
    members = h.members;
    present = h.present;
    own = h.own;
    free = λ life seat here gone. (h.over life seat here gone).free;
    act = λ life seat here gone. (h.over life seat here gone).act;
    back = λ life seat here gone. (h.over life seat here gone).back;
  }

-- ---- what follows of it

-- each offer is of a life that is there
pub offer_life : (s : Setting) (w : WorldState) (o : Offered) → IsReached s w → Contains w.offers o → IsNode (length w.seats) o.node
offer_life s w o r listed = All-contains (λ x. IsNode (length w.seats) x.node) w.offers o (lives_hold s w r).offers listed

-- a number of a life has a member, whose it is
pub life_member : (s : Setting) (w : WorldState) (life : ℕ) → LivesStand s w → IsNode (length w.seats) life → numbered w.lives life ≡ Some (member_of w life)
life_member s w life h is = at_member (numbered_there w.lives life (subst (λ n. IsNode n life) (sym h.count) is)) where
  at_member : (k : ℕ) × (numbered w.lives life ≡ Some k) → numbered w.lives life ≡ Some (member_of w life)
  at_member f = f.1 ∙ ap (λ k. Some k) (sym (member_is w life f.0 f.1))

-- the member of a dead prefix is one of the setting
pub dead_member : (s : Setting) (w : WorldState) (node : ℕ) (p : Prefix) → IsReached s w → IsDead w node p → IsNode (length s.members) node
dead_member s w node p r d = settled_member s w node p (after_settle w node p) (settling_is w node p d) (lives_hold s w r)

-- an event leaves the agent of each life that has ended
pub ended_agent : (s : Setting) (w : WorldState) (e : Event) (c : Choice) (life : ℕ) (seat : Seat) → IsFit s w e → LivesStand s w → is_present w life ≡ false
    → seat_at (after_event s w e c) life ≡ Some seat → (old : Seat) × (seat_at w life ≡ Some old) × (old.agent ≡ seat.agent)
ended_agent s w e c life seat fit h gone here = by_case (event_agents s w e c fit life seat here) where
  by_case : AgentStays s w life seat.agent → (old : Seat) × (seat_at w life ≡ Some old) × (old.agent ≡ seat.agent)
  by_case (AgentStays.stays old there same) = (old, there, same)
  by_case (AgentStays.changes node member is) = absurd (ended_apart w node life (h.own node member) gone is)

-- ---- a restart of a network whose lives stand

module _ (s : Setting) (w : WorldState) (node : ℕ) (image : PoolImage) (x : WorldState) (r : Restarting s w node image x) (h : LivesStand s w) where
  next_life : length w.lives + 1 ≡ length w.seats + 1
  next_life = ap (λ n. n + 1) h.count

  within_lives : (life : ℕ) (seat : Seat) → seat_at w life ≡ Some seat → IsNode (length w.lives) life
  within_lives life seat here = subst (λ n. IsNode n life) (sym h.count) (numbered_within w.seats life seat here)

  -- the life that begins is the member's present one
  pub restart_present : present_life x node ≡ length w.seats + 1
  restart_present = begun_present w x node r.lives ∙ next_life

  pub restart_member : member_of x (length w.seats + 1) ≡ node
  restart_member = ap (λ n. member_of x n) (sym next_life) ∙ begun_member w x node r.lives

  pub restart_is_present : is_present x (length w.seats + 1) ≡ true
  restart_is_present = ap (λ n. is_present x n) (sym next_life) ∙ begun_is_present w x node r.lives

  -- the one that was has ended
  pub restart_ends : is_present x (present_life w node) ≡ false
  restart_ends =
      ended_now w x node r.lives (present_life w node) (within_lives (present_life w node) r.seat r.here)
      (h.own node (numbered_within s.members node r.member r.found))

  -- whose the lives before are stays
  pub restart_members : (life : ℕ) (seat : Seat) → seat_at w life ≡ Some seat → member_of x life ≡ member_of w life
  restart_members life seat here = member_stays w x node r.lives life (within_lives life seat here)

  -- and so does whether they are present, but for the one that ends
  pub restart_still_present : (life : ℕ) (seat : Seat) → seat_at w life ≡ Some seat → life ≢ present_life w node → is_present x life ≡ is_present w life
  restart_still_present life seat here apart = stays_present w x node r.lives life (within_lives life seat here) apart

  pub restart_still_ended : (life : ℕ) (seat : Seat) → seat_at w life ≡ Some seat → is_present w life ≡ false → is_present x life ≡ false
  restart_still_ended life seat here gone = stays_ended w x node r.lives life (within_lives life seat here) gone

  -- one of them that is present was so, and is another member's
  pub restart_was_present : (life : ℕ) (seat : Seat) → seat_at w life ≡ Some seat → is_present x life ≡ true → (is_present w life ≡ true) × (member_of w life ≢ node)
  restart_was_present life seat here is = was_present w x node r.lives life (within_lives life seat here) is
