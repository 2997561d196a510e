-- What a restart changes: a life ends, another one begins, and the sides of streams that were there are told that they are closed.
use Rattle.std.proofs.Common.{◌≡◌, ◌≢◌, ◌⊎◌, inl, inr, refl, sym, ap, ◌∙◌, subst, ℕ, ◌+◌, ◌-◌, ◌==◌, ◌&&◌, ◌||◌, Bool, true, false, cond, not, List, [], ◌∷◌, ◌++◌, length, map, filter, find, sum_by, is_some, nat_lt, slice_get, slice_set, Contains, Option, Some, None, option_map}
use Rattle.std.proofs.lemmas.Bool.{and_from, or_left, or_right, or_from, eq-eqb, ne_eqb, cases_Bool, false≢true}
use Rattle.std.proofs.lemmas.List.{length-set, length-map, length_push}
use Rattle.std.proofs.lemmas.List.Sums.{sum_by-cons}
use Rattle.std.proofs.lemmas.Option.{same_Some}
use Rattle.std.specs.List.{prefix_len, position_or_len}
use Rattle.grasp_agent.specs.Reopening.{retired, MayReopen}
use Rattle.grasp_pool.specs.Functions.{pool_of_image}
use Rattle.grasp_pool.specs.Holdings.{IsListed}
use Rattle.grasp_pool.specs.declared.image.PoolImage.{PoolImage}
use Rattle.grasp_session.specs.Messages.{Side, Near, Far}
use Rattle.grasp_laws_network.proofs.Appended.{appended, numbered_last, numbered_still, numbered_before, not_next}
use Rattle.grasp_laws_network.proofs.EachNode.{IsMade, is_made}
use Rattle.grasp_laws_network.proofs.Here.{present_least}
use Rattle.grasp_laws_network.proofs.Lists.{slice_map, numbered_put, filtered, filter_has}
use Rattle.grasp_laws_network.proofs.Lives.{OfEachLife}
use Rattle.grasp_laws_network.proofs.Offers.{kept_other, kept_listed, kept_own}
use Rattle.grasp_laws_network.proofs.Others.{put_elsewhere}
use Rattle.grasp_laws_network.proofs.Staying.{put_here}
use Rattle.grasp_model_network.proofs.Facts.{number_passes}
use Rattle.grasp_model_network.specs.Offers.{is_kept}
use Rattle.grasp_model_network.specs.Openings.{opened_seat}
use Rattle.grasp_model_network.specs.Restarting.{is_of_life, waits_for, told_if, told_at, restarted, restarted_by, after_restart, MayRestart}
use Rattle.grasp_model_network.specs.Sending.{seat_with}
use Rattle.grasp_model_network.specs.Setting.{Member, Setting, numbered, member_at}
use Rattle.grasp_model_network.specs.Streams.{Arrival, StreamEnd, StreamState, lives, told_closed, is_reached, is_waiting, is_number, end_at, side_at, sent_by, is_same_end, is_at_end, side_of_end, has_end, stream_numbered, place_of_end, count_at_end}
use Rattle.grasp_model_network.specs.World.{Offered, Seat, WorldState, present_life, seat_at}

-- ---- a side that is told

-- all of a stream but how its sides stand
pub record IsSameStream (t u : StreamState) : Type 0 where
  pub near : u.near ≡ t.near
  pub to : u.to ≡ t.to
  pub number : u.number ≡ t.number
  pub far : u.far ≡ t.far
  pub from_near : u.from_near ≡ t.from_near
  pub from_far : u.from_far ≡ t.from_far
  pub said : u.said ≡ t.said

same_if : (b : Bool) (side : Side) (t : StreamState) → IsSameStream t (told_if b side t)
same_if true Near t = record { near = refl; to = refl; number = refl; far = refl; from_near = refl; from_far = refl; said = refl }
same_if true Far t = record { near = refl; to = refl; number = refl; far = refl; from_near = refl; from_far = refl; said = refl }
same_if false side t = record { near = refl; to = refl; number = refl; far = refl; from_near = refl; from_far = refl; said = refl }

-- the side stands so after it is told, where it is
abbrev pub arrival_if : Bool → Arrival → Arrival
arrival_if true a = told_closed
arrival_if false a = a

near_if_near : (b : Bool) (t : StreamState) → (told_if b Near t).near_side ≡ arrival_if b t.near_side
near_if_near true t = refl
near_if_near false t = refl

near_if_far : (b : Bool) (t : StreamState) → (told_if b Far t).near_side ≡ t.near_side
near_if_far true t = refl
near_if_far false t = refl

far_if_near : (b : Bool) (t : StreamState) → (told_if b Near t).far_side ≡ t.far_side
far_if_near true t = refl
far_if_near false t = refl

far_if_far : (b : Bool) (t : StreamState) → (told_if b Far t).far_side ≡ arrival_if b t.far_side
far_if_far true t = refl
far_if_far false t = refl

-- ---- a stream

-- a restart of this member, whose life ends, tells this side of the stream that it is closed: the side is of that life, or it is the far side
-- of a stream that goes to the member and wasn't opened
abbrev pub is_told : Setting → ℕ → ℕ → StreamState → Side → Bool
is_told s node life t Near = t.near.node == life
is_told s node life t Far = is_of_life life t.far || waits_for s node t

-- the second stream is the first one once its sides are told so
pub record IsToldAt (s : Setting) (node life : ℕ) (t u : StreamState) : Type 0 where
  pub same : IsSameStream t u
  pub side : (side : Side) → side_at u side ≡ arrival_if (is_told s node life t side) (side_at t side)

pub told_is : (s : Setting) (node life : ℕ) (t : StreamState) → IsToldAt s node life t (told_at s node life t)
told_is s node life t = record { same = same; side = by_side } where
  same : IsSameStream t (told_at s node life t)
  same =
      let a : IsSameStream t (told_if (t.near.node == life) Near t) = same_if (t.near.node == life) Near t in
      let b : IsSameStream (told_if (t.near.node == life) Near t) (told_at s node life t) = same_if (is_of_life life t.far || waits_for s node t) Far (told_if (t.near.node == life) Near t) in
      record {
        near = b.near ∙ a.near;
        to = b.to ∙ a.to;
        number = b.number ∙ a.number;
        far = b.far ∙ a.far;
        from_near = b.from_near ∙ a.from_near;
        from_far = b.from_far ∙ a.from_far;
        said = b.said ∙ a.said;
      }

  by_side : (side : Side) → side_at (told_at s node life t) side ≡ arrival_if (is_told s node life t side) (side_at t side)
  by_side Near = near_if_far (is_of_life life t.far || waits_for s node t) (told_if (t.near.node == life) Near t) ∙ near_if_near (t.near.node == life) t
  by_side Far =
      far_if_far (is_of_life life t.far || waits_for s node t) (told_if (t.near.node == life) Near t)
      ∙ ap (λ a. arrival_if (is_of_life life t.far || waits_for s node t) a) (far_if_near (t.near.node == life) t)

of_life : (life : ℕ) (o : Option StreamEnd) (e : StreamEnd) → o ≡ Some e → e.node ≡ life → is_of_life life o ≡ true
of_life life o e is own = ap (is_of_life life) is ∙ eq-eqb e.node life own

-- a side to which something is delivered, one that waits and one that lives aren't told closed
pub reached_open : (a : Arrival) → is_reached a ≡ true → a ≢ told_closed
reached_open a is e = false≢true (sym (ap is_reached e) ∙ is)

pub waiting_open : (a : Arrival) → is_waiting a ≡ true → a ≢ told_closed
waiting_open a is e = false≢true (sym (ap is_waiting e) ∙ is)

pub lives_open : (a : Arrival) → a ≡ lives → a ≢ told_closed
lives_open a is = reached_open a (ap is_reached is)

module _ (s : Setting) (node life : ℕ) (t u : StreamState) (i : IsToldAt s node life t u) where
  -- an end stays, and so does what its side sent
  pub same_end : (side : Side) → end_at u side ≡ end_at t side
  same_end Near = ap (λ e. Some e) i.same.near
  same_end Far = i.same.far

  pub same_sent : (side : Side) → sent_by u side ≡ sent_by t side
  same_sent Near = i.same.from_near
  same_sent Far = i.same.from_far

  -- a side that is told
  pub told_so : (side : Side) → is_told s node life t side ≡ true → side_at u side ≡ told_closed
  told_so side is = i.side side ∙ ap (λ b. arrival_if b (side_at t side)) is

  -- and one that isn't
  pub kept_so : (side : Side) → is_told s node life t side ≡ false → side_at u side ≡ side_at t side
  kept_so side is = i.side side ∙ ap (λ b. arrival_if b (side_at t side)) is

  -- each side is one or the other
  pub told_or_kept : (side : Side) → ((is_told s node life t side ≡ true) × (side_at u side ≡ told_closed)) ⊎ ((is_told s node life t side ≡ false) × (side_at u side ≡ side_at t side))
  told_or_kept side = by_test (cases_Bool (is_told s node life t side)) where
    by_test : (is_told s node life t side ≡ true) ⊎ (is_told s node life t side ≡ false)
        → ((is_told s node life t side ≡ true) × (side_at u side ≡ told_closed)) ⊎ ((is_told s node life t side ≡ false) × (side_at u side ≡ side_at t side))
    by_test (inl is) = inl (is, told_so side is)
    by_test (inr is) = inr (is, kept_so side is)

  -- a side of the life that ends is told
  pub own_told : (side : Side) (e : StreamEnd) → end_at t side ≡ Some e → e.node ≡ life → side_at u side ≡ told_closed
  own_told Near e is own = told_so Near (eq-eqb t.near.node life (ap (λ (x : StreamEnd). x.node) (same_Some t.near e is) ∙ own))
  own_told Far e is own = told_so Far (or_left (is_of_life life t.far) (waits_for s node t) (of_life life t.far e is own))

  -- and so is the far side of a stream that goes to the member and wasn't opened
  pub waiting_told : is_waiting t.far_side ≡ true → member_at s t.to ≡ Some node → u.far_side ≡ told_closed
  waiting_told waits to =
      told_so Far
      (or_right (is_of_life life t.far) (waits_for s node t)
      (and_from (is_waiting t.far_side) (is_number node (member_at s t.to)) waits (number_passes node (member_at s t.to) to)))

  -- a side that was opened at another life stays as it was
  pub other_kept : (side : Side) (e : StreamEnd) → end_at t side ≡ Some e → e.node ≢ life → is_waiting (side_at t side) ≡ false → side_at u side ≡ side_at t side
  other_kept Near e is apart open_still =
      kept_so Near (ne_eqb t.near.node life (λ own. apart (sym (ap (λ (x : StreamEnd). x.node) (same_Some t.near e is)) ∙ own)))
  other_kept Far e is apart open_still =
      kept_so Far
      (or_from (is_of_life life t.far) (waits_for s node t) (ap (is_of_life life) is ∙ ne_eqb e.node life apart)
      (ap (λ b. b && is_number node (member_at s t.to)) open_still))

  -- what isn't told closed is as it was, and was not to be told
  pub was_so : (side : Side) → side_at u side ≢ told_closed → (is_told s node life t side ≡ false) × (side_at u side ≡ side_at t side)
  was_so side apart = by_case (told_or_kept side) where
    by_case : ((is_told s node life t side ≡ true) × (side_at u side ≡ told_closed)) ⊎ ((is_told s node life t side ≡ false) × (side_at u side ≡ side_at t side))
        → (is_told s node life t side ≡ false) × (side_at u side ≡ side_at t side)
    by_case (inl h) = absurd (apart h.1)
    by_case (inr h) = h

  -- so its end is of another life
  pub not_own : (side : Side) (e : StreamEnd) → end_at t side ≡ Some e → side_at u side ≢ told_closed → e.node ≢ life
  not_own side e is apart own = apart (own_told side e is own)

  -- a side that was told stays so, and one that lives did
  pub closed_stays : (side : Side) → side_at t side ≡ told_closed → side_at u side ≡ told_closed
  closed_stays side was = by_case (told_or_kept side) where
    by_case : ((is_told s node life t side ≡ true) × (side_at u side ≡ told_closed)) ⊎ ((is_told s node life t side ≡ false) × (side_at u side ≡ side_at t side)) → side_at u side ≡ told_closed
    by_case (inl h) = h.1
    by_case (inr h) = h.1 ∙ was

  pub lived : (side : Side) → side_at u side ≡ lives → side_at t side ≡ lives
  lived side is = sym (was_so side (lives_open (side_at u side) is)).1 ∙ is

  -- a stream that waits still did, and goes to another member
  pub waited : is_waiting u.far_side ≡ true → (is_waiting t.far_side ≡ true) × (member_at s t.to ≢ Some node)
  waited waits = by_case (was_so Far (waiting_open u.far_side waits)) where
    by_case : (is_told s node life t Far ≡ false) × (u.far_side ≡ t.far_side) → (is_waiting t.far_side ≡ true) × (member_at s t.to ≢ Some node)
    by_case h =
        let was : is_waiting t.far_side ≡ true = sym (ap is_waiting h.1) ∙ waits in
        (was, λ to. waiting_open u.far_side waits (waiting_told was to))

-- ---- the tests of a stream that a restart leaves

pub same_side_of : (e : StreamEnd) (t u : StreamState) → IsSameStream t u → side_of_end e u ≡ side_of_end e t
same_side_of e t u i =
    ap (λ (x : StreamEnd). cond (is_same_end e x) (Some Near) (cond (is_at_end e u.far) (Some Far) None)) i.near
    ∙ ap (λ (o : Option StreamEnd). cond (is_same_end e t.near) (Some Near) (cond (is_at_end e o) (Some Far) None)) i.far

pub same_has_end : (e : StreamEnd) (t u : StreamState) → IsSameStream t u → has_end e u ≡ has_end e t
same_has_end e t u i = ap (λ o. is_some o) (same_side_of e t u i)

pub same_number : (k : ℕ) (t u : StreamState) → IsSameStream t u → is_number k u.number ≡ is_number k t.number
same_number k t u i = ap (λ o. is_number k o) i.number

-- ---- all streams

find_map : {A B : Type 0} (f : A → B) (p : B → Bool) (q : A → Bool) → ((x : A) → p (f x) ≡ q x) → (xs : List A) → find p (map f xs) ≡ option_map f (find q xs)
find_map f p q same [] = refl
find_map f p q same (x ∷ xs) = ap (λ b. cond b (Some (f x)) (find p (map f xs))) (same x) ∙ by_test (q x) (find_map f p q same xs) where
  by_test : (b : Bool) → find p (map f xs) ≡ option_map f (find q xs) → cond b (Some (f x)) (find p (map f xs)) ≡ option_map f (cond b (Some x) (find q xs))
  by_test true rest = refl
  by_test false rest = rest

prefix_map : {A B : Type 0} (f : A → B) (p : B → Bool) (q : A → Bool) → ((x : A) → p (f x) ≡ q x) → (xs : List A) → prefix_len p (map f xs) ≡ prefix_len q xs
prefix_map f p q same [] = refl
prefix_map f p q same (x ∷ xs) =
    ap (λ b. cond b (1 + prefix_len p (map f xs)) 0) (same x) ∙ ap (λ n. cond (q x) (1 + n) 0) (prefix_map f p q same xs)

sum_map : {A B : Type 0} (f : A → B) (g : B → ℕ) (h : A → ℕ) → ((x : A) → g (f x) ≡ h x) → (xs : List A) → sum_by g (map f xs) ≡ sum_by h xs
sum_map f g h same [] = refl
sum_map f g h same (x ∷ xs) =
    sum_by-cons g (f x) (map f xs) ∙ (ap (λ n. n + sum_by g (map f xs)) (same x) ∙ (ap (λ n. h x + n) (sum_map f g h same xs) ∙ sym (sum_by-cons h x xs)))

module _ (s : Setting) (node life : ℕ) (ts : List StreamState) where
  -- the streams once the restart has told their sides
  abbrev pub told_all : List StreamState
  told_all = map (told_at s node life) ts

  same_told : (t : StreamState) → IsSameStream t (told_at s node life t)
  same_told t = (told_is s node life t).same

  -- each is where it was
  pub told_there : (place : ℕ) (t : StreamState) → slice_get ts place ≡ Some t → slice_get told_all place ≡ Some (told_at s node life t)
  told_there place t e = slice_map (told_at s node life) ts place t e

  pub told_numbered : (k : ℕ) → stream_numbered told_all k ≡ option_map (told_at s node life) (stream_numbered ts k)
  told_numbered k = find_map (told_at s node life) (λ t. is_number k t.number) (λ t. is_number k t.number) (λ t. same_number k t (told_at s node life t) (same_told t)) ts

  pub told_places : (e : StreamEnd) → place_of_end told_all e ≡ place_of_end ts e
  told_places e =
      ap (λ n. cond (nat_lt n (length told_all)) (Some n) None)
      (prefix_map (told_at s node life) (λ t. not (has_end e t)) (λ t. not (has_end e t)) (λ t. ap not (same_has_end e t (told_at s node life t) (same_told t))) ts)
      ∙ ap (λ n. cond (nat_lt (position_or_len (has_end e) ts) n) (Some (position_or_len (has_end e) ts)) None) (length-map ts (told_at s node life))

  pub told_counts : (e : StreamEnd) → count_at_end told_all e ≡ count_at_end ts e
  told_counts e =
      sum_map (told_at s node life) (λ t. cond (has_end e t) 1 0) (λ t. cond (has_end e t) 1 0)
      (λ t. ap (λ b. cond b 1 0) (same_has_end e t (told_at s node life t) (same_told t))) ts

-- ---- the restart

-- what stands at a life's number after a restart: the life that ended, one that goes on, or the one that begins
pub data IsRestarted (w : WorldState) (life : ℕ) (left opened : Seat) (n : ℕ) (y : Seat) : Type 0 where
  ended : n ≡ life → left ≡ y → IsRestarted w life left opened n y
  goes_on : n ≢ life → seat_at w n ≡ Some y → IsRestarted w life left opened n y
  begins : n ≡ length w.seats + 1 → opened ≡ y → IsRestarted w life left opened n y

-- the life that ends, as it is left
abbrev pub retired_seat : Seat → Seat
retired_seat seat = seat_with seat.core (retired seat.agent)

-- the life that begins
abbrev pub begun_seat : Member → PoolImage → Seat
begun_seat m image = opened_seat m.plan (pool_of_image image)

-- the second network is the first one after this restart. Of what each of them has:
pub record Restarting (s : Setting) (w : WorldState) (node : ℕ) (image : PoolImage) (x : WorldState) : Type 0 where
  -- the member, its present life, which ends, and that it may begin anew by this image
  pub member : Member
  pub found : numbered s.members node ≡ Some member
  pub seat : Seat
  pub here : seat_at w (present_life w node) ≡ Some seat
  pub image_is : MayReopen seat.agent image
  -- the life that ends has its core and a retired agent, another one begins, and all others are the same
  pub seats : x.seats ≡ slice_set w.seats (present_life w node - 1) (retired_seat seat) ++ begun_seat member image ∷ []
  pub count : length x.seats ≡ length w.seats + 1
  pub each : (n : ℕ) (y : Seat) → seat_at x n ≡ Some y → IsRestarted w (present_life w node) (retired_seat seat) (begun_seat member image) n y
  pub left : seat_at x (present_life w node) ≡ Some (retired_seat seat)
  pub begun : seat_at x (length w.seats + 1) ≡ Some (begun_seat member image)
  pub others : (n : ℕ) → n ≢ present_life w node → n ≢ length w.seats + 1 → seat_at x n ≡ seat_at w n
  pub stays : (n : ℕ) (y : Seat) → n ≢ present_life w node → seat_at w n ≡ Some y → seat_at x n ≡ Some y
  -- the life that begins is the member's
  pub lives : x.lives ≡ w.lives ++ node ∷ []
  -- each stream is where it was, and its sides are told
  pub streams : x.streams ≡ map (told_at s node (present_life w node)) w.streams
  pub told : (place : ℕ) (t : StreamState) → slice_get w.streams place ≡ Some t → (u : StreamState) × (slice_get x.streams place ≡ Some u) × IsToldAt s node (present_life w node) t u
  pub were_told : (place : ℕ) (u : StreamState) → slice_get x.streams place ≡ Some u → (t : StreamState) × (slice_get w.streams place ≡ Some t) × IsToldAt s node (present_life w node) t u
  -- the offers are those of other lives, and those that the life that ends has reserved or in doubt
  pub offers : x.offers ≡ filter (is_kept (present_life w node) (retired seat.agent).pool) w.offers
  pub were_offered : (o : Offered) → Contains x.offers o → Contains w.offers o × (o.node ≡ present_life w node → IsListed (retired seat.agent).pool o.prefix)
  pub others_offered : (o : Offered) → Contains w.offers o → o.node ≢ present_life w node → Contains x.offers o
  pub stays_offered : (o : Offered) → Contains w.offers o → IsListed (retired seat.agent).pool o.prefix → Contains x.offers o
  -- all else is the same
  pub settled : x.settled ≡ w.settled
  pub datagrams : x.datagrams ≡ w.datagrams
  pub dials : x.dials ≡ w.dials
  pub byte_count : x.byte_count ≡ w.byte_count
  pub flood_calls : x.flood_calls ≡ w.flood_calls
  pub floods_read : x.floods_read ≡ w.floods_read
  pub searches : x.searches ≡ w.searches
  pub answers : x.answers ≡ w.answers
  pub handles : x.handles ≡ w.handles
  pub rest : x ≡ record w { seats = x.seats; lives = x.lives; streams = x.streams; offers = x.offers }

module _ (s : Setting) (w : WorldState) (node : ℕ) (image : PoolImage) (m : MayRestart s w node image) where
  restart_is : after_restart s w node image ≡ restarted s w node (present_life w node) image m.seat m.member
  unfolding after_restart
  restart_is = ap (λ o. restarted_by s w node image o (numbered s.members node)) m.here ∙ ap (λ o. restarted_by s w node image (Some m.seat) o) m.found

  -- by the two lists of seats
  each_seat : (old new : Seat) (n : ℕ) (y : Seat) → numbered (slice_set w.seats (present_life w node - 1) old ++ new ∷ []) n ≡ Some y → IsRestarted w (present_life w node) old new n y
  each_seat old new n y e = by_place (appended (slice_set w.seats (present_life w node - 1) old) new n y e) where
    by_put : ((n ≡ present_life w node) × (old ≡ y)) ⊎ ((n ≢ present_life w node) × (numbered w.seats n ≡ Some y)) → IsRestarted w (present_life w node) old new n y
    by_put (inl h) = ended h.0 h.1
    by_put (inr h) = goes_on h.0 h.1

    by_place : (numbered (slice_set w.seats (present_life w node - 1) old) n ≡ Some y) ⊎ ((n ≡ length (slice_set w.seats (present_life w node - 1) old) + 1) × (new ≡ y))
        → IsRestarted w (present_life w node) old new n y
    by_place (inl h) = by_put (numbered_put w.seats (present_life w node) n old y (present_least w node) h)
    by_place (inr h) = begins (h.0 ∙ ap (λ k. k + 1) (length-set w.seats (present_life w node - 1) old)) h.1

  old_seat : (old new : Seat) → numbered (slice_set w.seats (present_life w node - 1) old ++ new ∷ []) (present_life w node) ≡ Some old
  old_seat old new = numbered_before (slice_set w.seats (present_life w node - 1) old) new (present_life w node) old (put_here w.seats (present_life w node) m.seat old m.here)

  new_seat : (old new : Seat) → numbered (slice_set w.seats (present_life w node - 1) old ++ new ∷ []) (length w.seats + 1) ≡ Some new
  new_seat old new =
      ap (λ k. numbered (slice_set w.seats (present_life w node - 1) old ++ new ∷ []) (k + 1)) (sym (length-set w.seats (present_life w node - 1) old))
      ∙ numbered_last (slice_set w.seats (present_life w node - 1) old) new

  other_seat : (old new : Seat) (n : ℕ) → n ≢ present_life w node → n ≢ length w.seats + 1 → numbered (slice_set w.seats (present_life w node - 1) old ++ new ∷ []) n ≡ numbered w.seats n
  other_seat old new n apart within =
      numbered_still (slice_set w.seats (present_life w node - 1) old) new n (λ e. within (e ∙ ap (λ k. k + 1) (length-set w.seats (present_life w node - 1) old)))
      ∙ put_elsewhere w.seats (present_life w node) n old (present_least w node) apart

  seat_count : (old new : Seat) → length (slice_set w.seats (present_life w node - 1) old ++ new ∷ []) ≡ length w.seats + 1
  seat_count old new = length_push (slice_set w.seats (present_life w node - 1) old) new ∙ ap (λ k. k + 1) (length-set w.seats (present_life w node - 1) old)

  told_so_at : (place : ℕ) (t : StreamState) → slice_get w.streams place ≡ Some t
      → (u : StreamState) × (slice_get (map (told_at s node (present_life w node)) w.streams) place ≡ Some u) × IsToldAt s node (present_life w node) t u
  told_so_at place t e = (told_at s node (present_life w node) t, slice_map (told_at s node (present_life w node)) w.streams place t e, told_is s node (present_life w node) t)

  were_so_at : (place : ℕ) (u : StreamState) → slice_get (map (told_at s node (present_life w node)) w.streams) place ≡ Some u
      → (t : StreamState) × (slice_get w.streams place ≡ Some t) × IsToldAt s node (present_life w node) t u
  were_so_at place u e = by_made (is_made (told_at s node (present_life w node)) w.streams place u e) where
    by_made : IsMade (told_at s node (present_life w node)) w.streams place u → (t : StreamState) × (slice_get w.streams place ≡ Some t) × IsToldAt s node (present_life w node) t u
    by_made i = (i.of, i.stands, subst (λ z. IsToldAt s node (present_life w node) i.of z) i.made (told_is s node (present_life w node) i.of))

  restarting_so : Restarting s w node image (restarted s w node (present_life w node) image m.seat m.member)
  restarting_so = record {
    member = m.member;
    found = m.found;
    seat = m.seat;
    here = m.here;
    image_is = m.image_is;
    seats = refl;
    count = seat_count (retired_seat m.seat) (begun_seat m.member image);
    each = each_seat (retired_seat m.seat) (begun_seat m.member image);
    left = old_seat (retired_seat m.seat) (begun_seat m.member image);
    begun = new_seat (retired_seat m.seat) (begun_seat m.member image);
    others = other_seat (retired_seat m.seat) (begun_seat m.member image);
    stays = λ n y apart e. other_seat (retired_seat m.seat) (begun_seat m.member image) n apart (not_next w.seats n y e) ∙ e;
    lives = refl;
    streams = refl;
    told = told_so_at;
    were_told = were_so_at;
    offers = refl;
    were_offered = λ o h.
        let f = filtered (is_kept (present_life w node) (retired m.seat.agent).pool) w.offers o h in
        (f.0, λ own. kept_own (present_life w node) (retired m.seat.agent).pool o f.1 own);
    others_offered = λ o h apart. filter_has (is_kept (present_life w node) (retired m.seat.agent).pool) w.offers o h (kept_other (present_life w node) (retired m.seat.agent).pool o apart);
    stays_offered = λ o h listed. filter_has (is_kept (present_life w node) (retired m.seat.agent).pool) w.offers o h (kept_listed (present_life w node) (retired m.seat.agent).pool o listed);
    settled = refl;
    datagrams = refl;
    dials = refl;
    byte_count = refl;
    flood_calls = refl;
    floods_read = refl;
    searches = refl;
    answers = refl;
    handles = refl;
    rest = refl;
  }

pub restarting_is : (s : Setting) (w : WorldState) (node : ℕ) (image : PoolImage) → MayRestart s w node image → Restarting s w node image (after_restart s w node image)
restarting_is s w node image m = subst (λ x. Restarting s w node image x) (sym (restart_is s w node image m)) (restarting_so s w node image m)

-- what holds of each life before, of the one that ended and of the one that begins, holds of each life after
pub restart_seats : (P : ℕ → Seat → Type 0) (s : Setting) (w : WorldState) (node : ℕ) (image : PoolImage) (x : WorldState) (r : Restarting s w node image x)
    → P (present_life w node) (retired_seat r.seat) → P (length w.seats + 1) (begun_seat r.member image) → OfEachLife P w → OfEachLife P x
restart_seats P s w node image x r left begun each n y e = by_case (r.each n y e) where
  by_case : IsRestarted w (present_life w node) (retired_seat r.seat) (begun_seat r.member image) n y → P n y
  by_case (ended n_is y_is) = subst (λ k. P k y) (sym n_is) (subst (λ z. P (present_life w node) z) y_is left)
  by_case (goes_on apart here) = each n y here
  by_case (begins n_is y_is) = subst (λ k. P k y) (sym n_is) (subst (λ z. P (length w.seats + 1) z) y_is begun)
