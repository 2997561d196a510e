-- What a settling changes: the present life's agent has the prefix free again, its offer is a settled one, and all else stays.
use Rattle.std.proofs.Common.{◌≡◌, ◌≢◌, ◌⊎◌, refl, sym, ap, ◌∙◌, subst, ℕ, ◌-◌, ◌==◌, ◌&&◌, true, not, [], ◌∷◌, ◌++◌, length, filter, slice_get, slice_set, Contains, Some}
use Rattle.std.proofs.lemmas.Bool.{and_parts, and_from, eq-eqb, eqb-true, not-true, both_ways, false_from_ne_true}
use Rattle.std.proofs.lemmas.List.{length-set}
use Rattle.std.proofs.lemmas.List.Elements.{Contains-append_left, Contains-push, Contains-push_cases}
use Rattle.grasp_agent.specs.Replies.{after_settling}
use Rattle.grasp_types.specs.Prefix.{AddressBlock as Prefix}
use Rattle.grasp_laws_network.proofs.Here.{present_least}
use Rattle.grasp_laws_network.proofs.Lists.{filtered, filter_has, found_is}
use Rattle.grasp_laws_network.proofs.Lives.{OfEachLife}
use Rattle.grasp_laws_network.proofs.Offers.{same_prefix, prefix_itself}
use Rattle.grasp_laws_network.proofs.Others.{put_elsewhere}
use Rattle.grasp_laws_network.proofs.Staying.{put_here}
use Rattle.grasp_laws_network.proofs.Ended.{put_life}
use Rattle.grasp_laws_network.specs.Telling.{OneAgent}
use Rattle.grasp_laws_network.specs.TurnsDo.{IsOfferBy}
use Rattle.grasp_model_network.specs.Offers.{is_same_prefix}
use Rattle.grasp_model_network.specs.Sending.{seat_with}
use Rattle.grasp_model_network.specs.Settling.{offer_by, is_other, settled_by, after_settle, NeverAccepts, IsDead}
use Rattle.grasp_model_network.specs.Streams.{StreamState}
use Rattle.grasp_model_network.specs.World.{Offered, Seat, WorldState, present_life, member_of, seat_at}

-- ---- the offer

-- the offers are of one life and one prefix
abbrev pub IsSameOffer : Offered → Offered → Type 0
IsSameOffer o x = (o.node ≡ x.node) × (o.prefix ≡ x.prefix)

-- the offer that is found is one of a life of this member, of this prefix
pub offer_is : (w : WorldState) (node : ℕ) (p : Prefix) (o : Offered) → offer_by w node p ≡ Some o → IsOfferBy w node p o
offer_is w node p o e =
    let f = found_is (λ x. member_of w x.node == node && is_same_prefix p x.prefix) w.offers o e in
    let a = and_parts (member_of w o.node == node) (is_same_prefix p o.prefix) f.1 in
    record { listed = f.0; member = eqb-true (member_of w o.node) node a.0; prefix = sym (same_prefix p o.prefix a.1) }

-- what is another offer is of another life or another prefix
pub other_apart : (o x : Offered) → is_other o x ≡ true → ¬ IsSameOffer o x
other_apart o x e same =
    both_ways (o.node == x.node && is_same_prefix o.prefix x.prefix) (not-true (o.node == x.node && is_same_prefix o.prefix x.prefix) e)
    (and_from (o.node == x.node) (is_same_prefix o.prefix x.prefix) (eq-eqb o.node x.node same.0) (prefix_itself o.prefix x.prefix same.1))

pub apart_other : (o x : Offered) → ¬ IsSameOffer o x → is_other o x ≡ true
apart_other o x apart =
    ap not
    (false_from_ne_true (o.node == x.node && is_same_prefix o.prefix x.prefix)
    (λ e. let a = and_parts (o.node == x.node) (is_same_prefix o.prefix x.prefix) e in apart (eqb-true o.node x.node a.0, same_prefix o.prefix x.prefix a.1)))

-- ---- the settling

-- the second network is the first one after this settling. Of what each of them has:
pub record Settling (w : WorldState) (node : ℕ) (p : Prefix) (x : WorldState) : Type 0 where
  -- the member's present life, which has the prefix in doubt
  pub seat : Seat
  pub here : seat_at w (present_life w node) ≡ Some seat
  pub doubtful : Contains seat.agent.pool.doubtful p
  -- the offer, by a life of the member, on a stream on which it is never accepted
  pub offer : Offered
  pub found : offer_by w node p ≡ Some offer
  pub is : IsOfferBy w node p offer
  pub place : ℕ
  pub on : offer.talk ≡ Some place
  pub talk : StreamState
  pub stands : slice_get w.streams place ≡ Some talk
  pub never : NeverAccepts w talk
  -- that life's agent settles the prefix, and its node stays; each other life is the same
  pub seats : x.seats ≡ slice_set w.seats (present_life w node - 1) (seat_with seat.core (after_settling seat.agent p))
  pub own : seat_at x (present_life w node) ≡ Some (seat_with seat.core (after_settling seat.agent p))
  pub others : (n : ℕ) → n ≢ present_life w node → seat_at x n ≡ seat_at w n
  pub count : length x.seats ≡ length w.seats
  -- the offer is no longer listed, and is a settled one
  pub offers : x.offers ≡ filter (is_other offer) w.offers
  pub were : (o : Offered) → Contains x.offers o → Contains w.offers o × (¬ IsSameOffer offer o)
  pub stay : (o : Offered) → Contains w.offers o → ¬ IsSameOffer offer o → Contains x.offers o
  pub settled : x.settled ≡ w.settled ++ offer ∷ []
  pub joins : Contains x.settled offer
  pub stays_settled : (o : Offered) → Contains w.settled o → Contains x.settled o
  pub was_settled : (o : Offered) → Contains x.settled o → Contains w.settled o ⊎ (offer ≡ o)
  -- all else is the same
  pub lives : x.lives ≡ w.lives
  pub streams : x.streams ≡ w.streams
  pub datagrams : x.datagrams ≡ w.datagrams
  pub dials : x.dials ≡ w.dials
  pub byte_count : x.byte_count ≡ w.byte_count
  pub flood_calls : x.flood_calls ≡ w.flood_calls
  pub floods_read : x.floods_read ≡ w.floods_read
  pub searches : x.searches ≡ w.searches
  pub answers : x.answers ≡ w.answers
  pub handles : x.handles ≡ w.handles
  pub rest : x ≡ record w { seats = x.seats; offers = x.offers; settled = x.settled }
  pub one : OneAgent w x

module _ (w : WorldState) (node : ℕ) (p : Prefix) (d : IsDead w node p) where
  settles : WorldState
  settles = settled_by w (present_life w node) p (Some d.seat) (Some d.offer)

  settles_is : after_settle w node p ≡ settled_by w (present_life w node) p (Some d.seat) (Some d.offer)
  unfolding after_settle
  settles_is = ap (λ o. settled_by w (present_life w node) p o (offer_by w node p)) d.here ∙ ap (λ o. settled_by w (present_life w node) p (Some d.seat) o) d.found

  settling_so : Settling w node p (settled_by w (present_life w node) p (Some d.seat) (Some d.offer))
  settling_so = record {
    seat = d.seat;
    here = d.here;
    doubtful = d.doubtful;
    offer = d.offer;
    found = d.found;
    is = offer_is w node p d.offer d.found;
    place = d.place;
    on = d.on;
    talk = d.talk;
    stands = d.stands;
    never = d.never;
    seats = refl;
    own = put_here w.seats (present_life w node) d.seat (seat_with d.seat.core (after_settling d.seat.agent p)) d.here;
    others = λ n apart. put_elsewhere w.seats (present_life w node) n (seat_with d.seat.core (after_settling d.seat.agent p)) (present_least w node) apart;
    count = length-set w.seats (present_life w node - 1) (seat_with d.seat.core (after_settling d.seat.agent p));
    offers = refl;
    were = λ o h. let f = filtered (is_other d.offer) w.offers o h in (f.0, other_apart d.offer o f.1);
    stay = λ o h apart. filter_has (is_other d.offer) w.offers o h (apart_other d.offer o apart);
    settled = refl;
    joins = Contains-push w.settled d.offer;
    stays_settled = λ o h. Contains-append_left w.settled (d.offer ∷ []) o h;
    was_settled = λ o h. Contains-push_cases w.settled d.offer o h;
    lives = refl;
    streams = refl;
    datagrams = refl;
    dials = refl;
    byte_count = refl;
    flood_calls = refl;
    floods_read = refl;
    searches = refl;
    answers = refl;
    handles = refl;
    rest = refl;
    one = record {
      node = present_life w node;
      seat = d.seat;
      here = d.here;
      agent = after_settling d.seat.agent p;
      offers = filter (is_other d.offer) w.offers;
      settled = w.settled ++ d.offer ∷ [];
      after = refl;
    };
  }

pub settling_is : (w : WorldState) (node : ℕ) (p : Prefix) → IsDead w node p → Settling w node p (after_settle w node p)
settling_is w node p d = subst (λ x. Settling w node p x) (sym (settles_is w node p d)) (settling_so w node p d)

-- what holds of each life before, and of the one with the agent that has settled, holds of each after
pub settle_lives : (P : ℕ → Seat → Type 0) (w : WorldState) (node : ℕ) (p : Prefix) (x : WorldState) (t : Settling w node p x)
    → P (present_life w node) (seat_with t.seat.core (after_settling t.seat.agent p)) → OfEachLife P w → OfEachLife P x
settle_lives P w node p x t h each =
    put_life P w x (present_life w node) (seat_with t.seat.core (after_settling t.seat.agent p)) (present_least w node) t.seats h each
