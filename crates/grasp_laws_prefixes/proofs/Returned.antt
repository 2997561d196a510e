-- An agent that is told something leaves what every agent offers, or reserves a prefix that it is to return; and what stands of the prefixes stands then.
use Rattle.std.proofs.Common.{◌≡◌, ◌≢◌, refl, sym, ap, ◌∙◌, subst, ℕ, nat_lt, Bool, true, false, cond, inl, inr, ◌⊎◌, List, slice_get, Contains, Option, Some, None, is_none, is_some, Result, Ok, Err}
use Rattle.std.proofs.lemmas.Bool.{true≢false, cases_eq}
use Rattle.std.proofs.lemmas.Option.{same_Some}
use Rattle.grasp_agent.specs.Laws.{IsPossible}
use Rattle.grasp_agent.specs.Replies as agent
use Rattle.grasp_agent.specs.Replies.{AgentEvent, want_reply, after_want, return_reply, after_return}
use Rattle.grasp_agent.specs.States.{AgentState, unsent_of}
use Rattle.grasp_agent.specs.declared.back.Return.{Return}
use Rattle.grasp_agent.specs.declared.back.ReturnFault.{ReturnFault}
use Rattle.grasp_agent.specs.declared.back.ReturnFault.TheVariants as fault
use Rattle.grasp_agent.specs.declared.want.WantFault.{WantFault}
use Rattle.grasp_pool.proofs.Addresses.{first_in}
use Rattle.grasp_pool.proofs.TakingAt.{take_at_takes}
use Rattle.grasp_pool.specs.Functions.{around, take_at_reply, after_take_at}
use Rattle.grasp_pool.specs.Holdings as pool
use Rattle.grasp_pool.specs.Holdings.{IsFree, IsListed}
use Rattle.grasp_pool.specs.Pools.{IsPool, IsTakenAt, room_of}
use Rattle.grasp_pool.specs.Spans.{Apart}
use Rattle.grasp_session.specs.Messages.{Side}
use Rattle.grasp_session.specs.Says.{IsAt}
use Rattle.grasp_session.specs.Sessions.{SessionState}
use Rattle.grasp_types.specs.Prefix.{AddressBlock as Prefix, IsPrefix, span_of}
use Rattle.grasp_types.specs.declared.address.Locator.{Locator}
use Rattle.grasp_types.specs.declared.session.Handle.{Handle}
use Rattle.grasp_laws_network.proofs.Lives.{same_member, same_present, same_is_present}
use Rattle.grasp_laws_network.proofs.Others.{put_elsewhere}
use Rattle.grasp_laws_network.proofs.Staying.{put_here}
use Rattle.grasp_laws_network.proofs.Telling.{one_agent, one_least}
use Rattle.grasp_laws_network.specs.Authorities.{Holds, Reserves, Keeps, IsOpenTalk, MayAccept, IsAuthority}
use Rattle.grasp_laws_network.specs.Lives.{LivesStand}
use Rattle.grasp_laws_network.specs.Telling.{IsNoReply, Tells}
use Rattle.grasp_model_network.specs.Offers.{is_offer_of, put_offer}
use Rattle.grasp_model_network.specs.Runs.{IsReached}
use Rattle.grasp_model_network.specs.Sending.{seat_with}
use Rattle.grasp_model_network.specs.Setting.{Setting}
use Rattle.grasp_model_network.specs.Telling.{with_return, after_telling}
use Rattle.grasp_model_network.specs.World.{Seat, Offered, WorldState, seat_at, with_seat, end_of, is_present, member_of, present_life}
use Rattle.grasp_model_network.specs.declared.event.Event.{Event}
use Rattle.grasp_laws_agents.specs.Giving.{IsOpenOffer, IsOwnSession, OffersIn, in_entry, in_return}
use Rattle.grasp_laws_prefixes.proofs.EntryOffers.{not_requested}
use Rattle.grasp_laws_prefixes.proofs.Listing.{none_in, offer_of, no_offer_of, put_from, put_keeps, put_has}
use Rattle.grasp_laws_prefixes.proofs.Members.{former_doubt, own_listed as listed_there}
use Rattle.grasp_laws_prefixes.proofs.NeverAccepted.{still_unaccepted}
use Rattle.grasp_laws_prefixes.proofs.Networks.{told_happens}
use Rattle.grasp_laws_prefixes.proofs.OneNode.{each_node}
use Rattle.grasp_laws_prefixes.proofs.OwnSessions.{same_sessions}
use Rattle.grasp_laws_prefixes.proofs.Places.{same_stay}
use Rattle.grasp_laws_prefixes.proofs.QuietKeeps.{quiet_keeps}
use Rattle.grasp_laws_prefixes.proofs.QuietSteps.{seat_still, goes_on_from}
use Rattle.grasp_laws_prefixes.proofs.Standing.{offer_unsent, IsEndAt, IsOfferedOn, WasSettledOn, IsPlaced, OffersAreKnown, PrefixesStand, SeatGoesOn, WorldGoesOn, NothingHappens}
use Rattle.grasp_laws_prefixes.specs.Apart.{HeldApart, offer_on}
use Rattle.grasp_laws_prefixes.specs.Grounds.{Grounds}
use Rattle.grasp_laws_prefixes.specs.Known.{HasInDoubt}

-- ---- what an agent makes of what it is told

-- the agent of a present life has reserved a prefix that was all free, as one that it is to return, and nothing else has changed
pub record Takes (w x : WorldState) : Type 0 where
  pub node : ℕ
  pub prefix : Prefix
  pub seat : Seat
  pub agent : AgentState
  pub here : seat_at w node ≡ Some seat
  pub present : is_present w node ≡ true
  pub there : seat_at x node ≡ Some (seat_with seat.core agent)
  pub others : (n : ℕ) → n ≢ node → seat_at x n ≡ seat_at w n
  pub offers : x.offers ≡ put_offer w.offers node prefix None
  pub settled : x.settled ≡ w.settled
  pub lives : x.lives ≡ w.lives
  pub streams : x.streams ≡ w.streams
  pub giving : agent.giving ≡ seat.agent.giving
  pub unsent : unsent_of agent.back ≡ Some prefix
  pub reserves : pool.Reserves seat.agent.pool agent.pool prefix

-- a return is taken where the pool takes its prefix
reply_takes : (a : AgentState) (p : Prefix) (done : Unit {0}) → return_reply a p ≡ Ok done → take_at_reply a.pool p ≡ true
reply_takes a p done e = by_back a.back e where
  by_free : (o : Option Prefix) (few : Bool) → cond (is_none o) (Err fault.NotFree) (cond few (Err fault.Full) (Ok tt)) ≡ Ok done → cond few false (is_some o) ≡ true
  by_free (Some w) false f = refl
  by_free (Some w) true f = absurd (cc)
  by_free None few f = absurd (cc)

  by_back : (b : Option Return) → return_reply (record a { back = b }) p ≡ Ok done → take_at_reply a.pool p ≡ true
  by_back None f = by_free (around a.pool.free p) (nat_lt (room_of a.pool) 128) f
  by_back (Some r) f = absurd (cc)

pool_takes : (a : AgentState) (p : Prefix) (done : Unit {0}) → IsPool a.pool → IsPrefix p.address p.length → return_reply a p ≡ Ok done → IsTakenAt a.pool (after_take_at a.pool p true) p
pool_takes a p done stands valid e =
    let takes : take_at_reply a.pool p ≡ true = reply_takes a p done e in
    subst (λ b. IsTakenAt a.pool (after_take_at a.pool p b) p) takes (take_at_takes a.pool p stands valid takes)

-- a life that holds something is present, since one that has ended holds nothing
holder_present : (s : Setting) (w : WorldState) → LivesStand s w → (node : ℕ) (seat : Seat) → seat_at w node ≡ Some seat → (a : ℕ) → IsFree seat.agent.pool a → is_present w node ≡ true
holder_present s w lives node seat here a free = by_test (is_present w node) refl where
  by_test : (b : Bool) → is_present w node ≡ b → b ≡ true
  by_test true is = refl
  by_test false is = absurd (none_in free.0 (subst (λ ps. Contains ps free.0) (lives.free node seat here is) free.1))

module _ (l : Grounds) (s : Setting) (w : WorldState) (r : IsReached s w) (e : Event) (x : WorldState) (t : Tells s w e x) where
  -- the agent of the telling's node is this one now
  abbrev IsAfter : AgentState → Type 0
  IsAfter b = x ≡ record (with_seat w t.telling.node (seat_with t.seat.core b)) { offers = w.offers }

  quiet : (b : AgentState) → SeatGoesOn t.seat (seat_with t.seat.core b) → IsAfter b → WorldGoesOn w x
  quiet b goes after =
      goes_on_from w x t.telling.node t.seat (seat_with t.seat.core b) (one_least w x (one_agent s w e x t)) t.here
      (ap (λ (y : WorldState). y.seats) after) (record { offers = ap (λ (y : WorldState). y.offers) after; settled = ap (λ (y : WorldState). y.settled) after })
      (ap (λ (y : WorldState). y.lives) after) (same_stay w.streams x.streams (ap (λ (y : WorldState). y.streams) after)) goes

  by_want : (n longest : ℕ) (peer : Locator) (z : Result (Unit {0}) WantFault) → IsAfter (after_want t.seat.agent n longest peer z) → WorldGoesOn w x
  by_want n longest peer (Ok done) after =
      quiet (after_want t.seat.agent n longest peer (Ok done)) (record { pool = refl; giving = refl; back = refl; sessions = same_sessions t.seat.core.sessions }) after
  by_want n longest peer (Err fault) after = quiet t.seat.agent (seat_still t.seat) after

  by_return : (p : Prefix) (peer : Locator) → IsPrefix p.address p.length → (z : Result (Unit {0}) ReturnFault) → return_reply t.seat.agent p ≡ z
      → x ≡ record (with_seat w t.telling.node (seat_with t.seat.core (after_return t.seat.agent p peer z))) { offers = with_return w.offers t.telling.node p z } → WorldGoesOn w x ⊎ Takes w x
  by_return p peer valid (Err fault) is after = inl (quiet t.seat.agent (seat_still t.seat) after)
  by_return p peer valid (Ok done) is after = inr (record {
    node = t.telling.node;
    prefix = p;
    seat = t.seat;
    agent = after_return t.seat.agent p peer (Ok done);
    here = t.here;
    present = holder_present s w (l.lives s w r) t.telling.node t.seat t.here p.address (taken.was p.address (first_in p));
    there = ap (λ (y : WorldState). seat_at y t.telling.node) after ∙ put_here w.seats t.telling.node t.seat (seat_with t.seat.core (after_return t.seat.agent p peer (Ok done))) t.here;
    others = λ n apart. ap (λ (y : WorldState). seat_at y n) after
        ∙ put_elsewhere w.seats t.telling.node n (seat_with t.seat.core (after_return t.seat.agent p peer (Ok done))) (one_least w x (one_agent s w e x t)) apart;
    offers = ap (λ (y : WorldState). y.offers) after;
    settled = ap (λ (y : WorldState). y.settled) after;
    lives = ap (λ (y : WorldState). y.lives) after;
    streams = ap (λ (y : WorldState). y.streams) after;
    giving = refl;
    unsent = refl;
    reserves = taken;
  }) where
    taken : pool.Reserves t.seat.agent.pool (after_return t.seat.agent p peer (Ok done)).pool p
    taken = (pool_takes t.seat.agent p done (l.kept s w r t.telling.node t.seat t.here).pool valid is).reserves

  by_what : (what : AgentEvent) → IsPossible what → IsNoReply what → x ≡ after_telling w (record { node = t.telling.node; what = what }) (Some t.seat) → WorldGoesOn w x ⊎ Takes w x
  by_what (agent.wanted n longest peer) possible other after = inl (by_want n longest peer (want_reply t.seat.agent) after)
  by_what (agent.returned p peer) possible other after = by_return p peer possible (return_reply t.seat.agent p) refl after
  by_what (agent.replied z) possible other after = absurd other

  pub told_by : WorldGoesOn w x ⊎ Takes w x
  told_by = by_what t.telling.what t.possible t.no_reply t.after

-- ---- where a prefix is reserved

module _ (l : Grounds) (s : Setting) (w x : WorldState) (r : IsReached s w) (t : Takes w x) where
  abbrev pub new : Seat
  new = seat_with t.seat.core t.agent

  -- its addresses were held
  pub was_held : (a : ℕ) → span_of t.prefix a → Holds w t.node a
  was_held a span = record { seat = t.seat; here = t.here; free = t.reserves.was a span }

  was_unlisted : ¬ IsListed t.seat.agent.pool t.prefix
  was_unlisted h = (l.kept s w r t.node t.seat t.here).pool.held t.prefix t.prefix.address h (first_in t.prefix) (t.reserves.was t.prefix.address (first_in t.prefix))

  -- what holds of the node with its agent as it is now, and of each other node, holds of every node
  pub by_node : (P : ℕ → Seat → Type 0) → P t.node new → ((n : ℕ) (seat : Seat) → n ≢ t.node → seat_at w n ≡ Some seat → P n seat) → (n : ℕ) (seat : Seat) → seat_at x n ≡ Some seat → P n seat
  by_node P = each_node w x t.node new t.there t.others P

  -- ---- what is listed

  abbrev IsOld : Offered → Type 0
  IsOld o = Contains w.offers o × (is_offer_of t.node t.prefix o ≡ false)

  listed_now : (o : Offered) → Contains x.offers o → IsOld o ⊎ (o ≡ offer_unsent t.node t.prefix)
  listed_now o h = put_from w.offers t.node t.prefix None o (subst (λ os. Contains os o) t.offers h)

  still_listed : (o : Offered) → Contains w.offers o → (o.node ≡ t.node → o.prefix ≡ t.prefix → ⊥) → Contains x.offers o
  still_listed o h none = subst (λ os. Contains os o) (sym t.offers) (put_keeps w.offers t.node t.prefix None o h (no_offer_of t.node t.prefix o none))

  pub new_listed : Contains x.offers (offer_unsent t.node t.prefix)
  new_listed = subst (λ os. Contains os (offer_unsent t.node t.prefix)) (sym t.offers) (put_has w.offers t.node t.prefix None)

  differs : (o : Offered) → is_offer_of t.node t.prefix o ≡ false → o.node ≡ t.node → o.prefix ≡ t.prefix → ⊥
  differs o none e f = true≢false (sym (offer_of t.node t.prefix o e f) ∙ none)

  pub still_on : (n : ℕ) (side : Side) (stream : ℕ) (p : Prefix) → (n ≡ t.node → p ≡ t.prefix → ⊥) → IsOfferedOn w n side stream p
      → IsOfferedOn x n side stream p
  still_on n side stream p none o = record {
    place = o.place;
    at = subst (λ ts. IsEndAt ts o.place side (end_of n stream)) (sym t.streams) o.at;
    listed = still_listed (offer_on n p o.place) o.listed none;
  }

  -- what was settled is so
  pub settled_on : (n : ℕ) (side : Side) (stream : ℕ) (p : Prefix) → WasSettledOn w n side stream p → WasSettledOn x n side stream p
  settled_on n side stream p o = record {
    place = o.place;
    at = subst (λ ts. IsEndAt ts o.place side (end_of n stream)) (sym t.streams) o.at;
    listed = subst (λ (os : List Offered). Contains os (offer_on n p o.place)) (sym t.settled) o.listed;
  }

  -- the same life is present or has ended
  pub same_presence : (n : ℕ) → is_present x n ≡ is_present w n
  same_presence n = same_is_present w x n t.lives

  placed : (o : Offered) → IsOld o ⊎ (o ≡ offer_unsent t.node t.prefix) → PrefixesStand w → IsPlaced x.streams o ⊎ (o.talk ≡ None)
  placed o (inl a) k = subst (λ ts. IsPlaced ts o ⊎ (o.talk ≡ None)) (sym t.streams) (k.known.placed o a.0)
  placed o (inr a) k = inr (ap (λ (z : Offered). z.talk) a)

  module _ (k : PrefixesStand w) where
    -- the prefix was offered by no life of the member
    none_other : (o : Offered) → IsOld o → member_of w o.node ≡ member_of w t.node → o.prefix ≡ t.prefix → ⊥
    none_other o old e f = by_life (cases_eq o.node t.node) where
      by_life : (o.node ≡ t.node) ⊎ (o.node ≡ t.node → ⊥) → ⊥
      by_life (inl same) = differs o old.1 same f
      by_life (inr apart) =
          was_unlisted (inr (subst (λ q. Contains t.seat.agent.pool.doubtful q) f (former_doubt w k.known t.node t.seat t.here o old.0 t.present e apart)))

    once : (o p : Offered) → IsOld o ⊎ (o ≡ offer_unsent t.node t.prefix) → IsOld p ⊎ (p ≡ offer_unsent t.node t.prefix) → member_of w o.node ≡ member_of w p.node → o.prefix ≡ p.prefix → o ≡ p
    once o p (inl a) (inl b) e f = k.known.once o p a.0 b.0 e f
    once o p (inl a) (inr b) e f = absurd (none_other o a (e ∙ ap (λ (z : Offered). member_of w z.node) b) (f ∙ ap (λ (z : Offered). z.prefix) b))
    once o p (inr a) (inl b) e f = absurd (none_other p b (sym e ∙ ap (λ (z : Offered). member_of w z.node) a) (sym f ∙ ap (λ (z : Offered). z.prefix) a))
    once o p (inr a) (inr b) e f = a ∙ sym b

    same_members : (o p : Offered) → member_of x o.node ≡ member_of x p.node → member_of w o.node ≡ member_of w p.node
    same_members o p e = sym (same_member w x o.node t.lives) ∙ (e ∙ same_member w x p.node t.lives)

    -- what its agent had reserved or in doubt it has so
    still_in_pool : (p : Prefix) → IsListed t.seat.agent.pool p → IsListed t.agent.pool p
    still_in_pool p (inl reserved) = inl ((t.reserves.reserved p).1 (inl reserved))
    still_in_pool p (inr doubtful) = inr (subst (λ ps. Contains ps p) (sym t.reserves.doubtful) doubtful)

    kept_still : (n : ℕ) (p : Prefix) → Keeps w n p → Keeps x n p
    kept_still n p h = by_life (cases_eq n t.node) where
      by_life : (n ≡ t.node) ⊎ (n ≡ t.node → ⊥) → Keeps x n p
      by_life (inl same) = record {
        seat = new;
        here = ap (λ m. seat_at x m) same ∙ t.there;
        listed = still_in_pool p (subst (λ (z : Seat). IsListed z.agent.pool p) (same_Some h.seat t.seat (sym h.here ∙ (ap (λ m. seat_at w m) same ∙ t.here))) h.listed);
      }
      by_life (inr apart) = record { seat = h.seat; here = t.others n apart ∙ h.here; listed = h.listed }

    doubt_still : (n : ℕ) (p : Prefix) → HasInDoubt w n p → HasInDoubt x n p
    doubt_still n p h = by_life (cases_eq n t.node) where
      by_life : (n ≡ t.node) ⊎ (n ≡ t.node → ⊥) → HasInDoubt x n p
      by_life (inl same) = record {
        seat = new;
        here = ap (λ m. seat_at x m) same ∙ t.there;
        doubtful = subst (λ ps. Contains ps p) (sym t.reserves.doubtful)
            (subst (λ (z : Seat). Contains z.agent.pool.doubtful p) (same_Some h.seat t.seat (sym h.here ∙ (ap (λ m. seat_at w m) same ∙ t.here))) h.doubtful);
      }
      by_life (inr apart) = record { seat = h.seat; here = t.others n apart ∙ h.here; doubtful = h.doubtful }

    kept : (o : Offered) → IsOld o ⊎ (o ≡ offer_unsent t.node t.prefix) → Keeps x o.node o.prefix
    kept o (inl a) = kept_still o.node o.prefix (k.known.kept o a.0)
    kept o (inr a) = subst (λ (z : Offered). Keeps x z.node z.prefix) (sym a) (record { seat = new; here = t.there; listed = inl ((t.reserves.reserved t.prefix).1 (inr refl)) })

    carried : (o : Offered) → IsOld o ⊎ (o ≡ offer_unsent t.node t.prefix) → is_present x o.node ≡ false → HasInDoubt x (present_life x (member_of x o.node)) o.prefix
    carried o (inl a) past =
        subst (λ life. HasInDoubt x life o.prefix) (sym (same_present w x (member_of x o.node) t.lives ∙ ap (λ m. present_life w m) (same_member w x o.node t.lives)))
        (doubt_still (present_life w (member_of w o.node)) o.prefix (k.known.carried o a.0 (sym (same_presence o.node) ∙ past)))
    carried o (inr a) past = absurd (true≢false (sym t.present ∙ (sym (ap (λ (z : Offered). is_present w z.node) a) ∙ (sym (same_presence o.node) ∙ past))))

    -- an offer of the node is listed for its stream still
    own_on : (side : Side) (stream : ℕ) (p : Prefix) → IsOfferedOn w t.node side stream p → IsOfferedOn x t.node side stream p
    own_on side stream p o =
        still_on t.node side stream p (λ e f. was_unlisted (subst (λ q. IsListed t.seat.agent.pool q) f (listed_there w k.known t.node t.seat t.here (offer_on t.node p o.place) o.listed refl))) o

    unsent : (n : ℕ) (seat : Seat) → seat_at x n ≡ Some seat → (p : Prefix) → unsent_of seat.agent.back ≡ Some p → Contains x.offers (offer_unsent n p)
    unsent n seat found p = by_node (λ m y. unsent_of y.agent.back ≡ Some p → Contains x.offers (offer_unsent m p))
        (λ e. subst (λ q. Contains x.offers (offer_unsent t.node q)) (same_Some t.prefix p (sym t.unsent ∙ e)) new_listed)
        (λ m y apart here e. still_listed (offer_unsent m p) (k.known.unsent m y here p e) (λ g f. apart g)) n seat found

    -- the node offers nothing anew
    own_offers : (side : Side) (h : Handle) (p : Prefix) → OffersIn t.agent side h p → OffersIn t.seat.agent side h p
    own_offers side h p (in_entry far place g at on offer) = in_entry far place g (ap (λ gs. slice_get gs place) (sym t.giving) ∙ at) on offer
    own_offers side h p (in_return near z is on e) = absurd (not_requested t.agent.back z h t.prefix t.unsent is on)

    offered : (n : ℕ) (seat : Seat) → seat_at x n ≡ Some seat → is_present x n ≡ true → (side : Side) (h : Handle) (p : Prefix) → OffersIn seat.agent side h p
        → (z : SessionState) → IsOwnSession seat.core.sessions h side z → IsOfferedOn x n side z.stream p
    offered n seat found present side h p o z own = by_node
        (λ m y. is_present x m ≡ true → OffersIn y.agent side h p → IsOwnSession y.core.sessions h side z → IsOfferedOn x m side z.stream p)
        (λ is there mine. own_on side z.stream p (k.known.offered t.node t.seat t.here t.present side h p (own_offers side h p there) z mine))
        (λ m y apart here is there mine. still_on m side z.stream p (λ g f. apart g) (k.known.offered m y here (sym (same_presence m) ∙ is) side h p there z mine)) n seat found present o own

    gone : (n : ℕ) (seat : Seat) → seat_at x n ≡ Some seat → (z : SessionState) (p : Prefix) → Contains seat.core.sessions.gone z → z.owner ≡ 1 → IsOpenOffer z.view p
        → (IsOfferedOn x n z.view.role z.stream p × Contains seat.agent.pool.doubtful p) ⊎ WasSettledOn x n z.view.role z.stream p
    gone n seat found z p was own is_open = by_node
        (λ m y. Contains y.core.sessions.gone z → (IsOfferedOn x m z.view.role z.stream p × Contains y.agent.pool.doubtful p) ⊎ WasSettledOn x m z.view.role z.stream p)
        (λ there. mine (k.known.gone t.node t.seat t.here z p there own is_open)) (λ m y apart here there. theirs m y apart (k.known.gone m y here z p there own is_open)) n seat found was where
          mine : (IsOfferedOn w t.node z.view.role z.stream p × Contains t.seat.agent.pool.doubtful p) ⊎ WasSettledOn w t.node z.view.role z.stream p
              → (IsOfferedOn x t.node z.view.role z.stream p × Contains t.agent.pool.doubtful p) ⊎ WasSettledOn x t.node z.view.role z.stream p
          mine (inl o) = inl (own_on z.view.role z.stream p o.0, subst (λ ps. Contains ps p) (sym t.reserves.doubtful) o.1)
          mine (inr o) = inr (settled_on t.node z.view.role z.stream p o)

          theirs : (m : ℕ) (y : Seat) → m ≢ t.node → (IsOfferedOn w m z.view.role z.stream p × Contains y.agent.pool.doubtful p) ⊎ WasSettledOn w m z.view.role z.stream p
              → (IsOfferedOn x m z.view.role z.stream p × Contains y.agent.pool.doubtful p) ⊎ WasSettledOn x m z.view.role z.stream p
          theirs m y apart (inl o) = inl (still_on m z.view.role z.stream p (λ g f. apart g) o.0, o.1)
          theirs m y apart (inr o) = inr (settled_on m z.view.role z.stream p o)

    ended : (n : ℕ) (seat : Seat) → seat_at x n ≡ Some seat → is_present x n ≡ false → (place : ℕ) (z : SessionState) (p : Prefix) → IsAt seat.core.sessions place z → z.owner ≡ 1 → IsOpenOffer z.view p
        → IsOfferedOn x n z.view.role z.stream p ⊎ WasSettledOn x n z.view.role z.stream p
    ended n seat found past place z p at own is_open = by_node
        (λ m y. is_present x m ≡ false → IsAt y.core.sessions place z → IsOfferedOn x m z.view.role z.stream p ⊎ WasSettledOn x m z.view.role z.stream p)
        (λ is there. absurd (true≢false (sym t.present ∙ (sym (same_presence t.node) ∙ is))))
        (λ m y apart here is there. theirs m apart (k.known.ended m y here (sym (same_presence m) ∙ is) place z p there own is_open)) n seat found past at where
          theirs : (m : ℕ) → m ≢ t.node → IsOfferedOn w m z.view.role z.stream p ⊎ WasSettledOn w m z.view.role z.stream p
              → IsOfferedOn x m z.view.role z.stream p ⊎ WasSettledOn x m z.view.role z.stream p
          theirs m apart (inl o) = inl (still_on m z.view.role z.stream p (λ g f. apart g) o)
          theirs m apart (inr o) = inr (settled_on m z.view.role z.stream p o)

    offers_known : NothingHappens w x → OffersAreKnown x
    offers_known none = record {
      once = λ o p h j e f. once o p (listed_now o h) (listed_now p j) (same_members o p e) f;
      placed = λ o h. placed o (listed_now o h) k;
      kept = λ o h. kept o (listed_now o h);
      carried = λ o h. carried o (listed_now o h);
      unsent = unsent;
      offered = offered;
      gone = gone;
      ended = ended;
      settled = λ o h. still_unaccepted l s w r x (same_stay w.streams x.streams t.streams) o (k.known.settled o (subst (λ (os : List Offered). Contains os o) t.settled h)) none;
    }

  -- ---- what is held, and what may be accepted

  free_before : (n a : ℕ) (seat : Seat) → seat_at x n ≡ Some seat → IsFree seat.agent.pool a → Holds w n a × (n ≡ t.node → ¬ span_of t.prefix a)
  free_before n a seat found free = by_node (λ m y. IsFree y.agent.pool a → Holds w m a × (m ≡ t.node → ¬ span_of t.prefix a))
      (λ now. let was = (t.reserves.free a).0 now in (record { seat = t.seat; here = t.here; free = was.0 }, λ e. was.1))
      (λ m y apart here now. (record { seat = y; here = here; free = now }, λ e. absurd (apart e))) n seat found free

  pub held_before : (n a : ℕ) → Holds x n a → Holds w n a
  held_before n a h = (free_before n a h.seat h.here h.free).0

  -- what is reserved or in doubt was so, but for this prefix of this node
  module _ (o : Offered) (old : is_offer_of t.node t.prefix o ≡ false) where
    own_reserved : o.node ≡ t.node → Contains t.agent.pool.reserved o.prefix → Contains t.seat.agent.pool.reserved o.prefix
    own_reserved e h = by_case ((t.reserves.reserved o.prefix).0 h) where
      by_case : Contains t.seat.agent.pool.reserved o.prefix ⊎ (o.prefix ≡ t.prefix) → Contains t.seat.agent.pool.reserved o.prefix
      by_case (inl was) = was
      by_case (inr f) = absurd (differs o old e f)

    own_listed : o.node ≡ t.node → IsListed t.agent.pool o.prefix → IsListed t.seat.agent.pool o.prefix
    own_listed e (inl reserved) = inl (own_reserved e reserved)
    own_listed e (inr doubtful) = inr (subst (λ ps. Contains ps o.prefix) t.reserves.doubtful doubtful)

    reserved_before : Reserves x o.node o.prefix → Reserves w o.node o.prefix
    reserved_before h = by_node (λ m y. o.node ≡ m → Contains y.agent.pool.reserved o.prefix → Reserves w m o.prefix)
        (λ e now. record { seat = t.seat; here = t.here; reserved = own_reserved e now }) (λ m y apart here e now. record { seat = y; here = here; reserved = now }) o.node h.seat h.here refl h.reserved

    kept_before : Keeps x o.node o.prefix → Keeps w o.node o.prefix
    kept_before h = by_node (λ m y. o.node ≡ m → IsListed y.agent.pool o.prefix → Keeps w m o.prefix)
        (λ e now. record { seat = t.seat; here = t.here; listed = own_listed e now }) (λ m y apart here e now. record { seat = y; here = here; listed = now }) o.node h.seat h.here refl h.listed

    may_before : (talk : Option ℕ) → MayAccept x o talk → MayAccept w o talk
    may_before None may = reserved_before may
    may_before (Some place) may = subst (λ ts. IsOpenTalk ts place) t.streams may

  -- what may be accepted might be before, or is the prefix that is reserved now
  pub authority_before : (o : Offered) → IsAuthority x o → IsAuthority w o ⊎ (o ≡ offer_unsent t.node t.prefix)
  authority_before o h = by_case (listed_now o h.listed) where
    by_case : IsOld o ⊎ (o ≡ offer_unsent t.node t.prefix) → IsAuthority w o ⊎ (o ≡ offer_unsent t.node t.prefix)
    by_case (inl old) = inl (record { listed = old.0; kept = kept_before o old.1 h.kept; live = may_before o old.1 o.talk h.live })
    by_case (inr e) = inr e

  module _ (k : PrefixesStand w) where
    held : HeldApart x
    held n m a apart h j = k.held n m a apart (held_before n a h) (held_before m a j)

    auth_held : (o : Offered) → IsAuthority w o ⊎ (o ≡ offer_unsent t.node t.prefix) → (n a : ℕ) → span_of o.prefix a → ¬ Holds x n a
    auth_held o (inl was) n a span h = k.authorities.held o was n a span (held_before n a h)
    auth_held o (inr is) n a span h = by_case (cases_eq n t.node) where
      mine : span_of t.prefix a
      mine = subst (λ (z : Offered). span_of z.prefix a) is span

      by_case : (n ≡ t.node) ⊎ (n ≡ t.node → ⊥) → ⊥
      by_case (inl e) = (free_before n a h.seat h.here h.free).1 e mine
      by_case (inr apart) = k.held n t.node a apart (held_before n a h) (was_held a mine)

    auth_others : (o p : Offered) → IsAuthority w o ⊎ (o ≡ offer_unsent t.node t.prefix) → IsAuthority w p ⊎ (p ≡ offer_unsent t.node t.prefix) → ¬ (o ≡ p) → Apart o.prefix p.prefix
    auth_others o p (inl a) (inl b) differ = k.authorities.others o p a b differ
    auth_others o p (inl a) (inr b) differ = λ address i j. k.authorities.held o a t.node address i (was_held address (subst (λ (z : Offered). span_of z.prefix address) b j))
    auth_others o p (inr a) (inl b) differ = λ address i j. k.authorities.held p b t.node address j (was_held address (subst (λ (z : Offered). span_of z.prefix address) a i))
    auth_others o p (inr a) (inr b) differ = absurd (differ (a ∙ sym b))

    taken_keeps : NothingHappens w x → PrefixesStand x
    taken_keeps none = record {
      known = offers_known k none;
      held = held;
      authorities = record { held = λ o h. auth_held o (authority_before o h); others = λ o p h j. auth_others o p (authority_before o h) (authority_before p j) };
    }

pub told_keeps : (l : Grounds) (s : Setting) (w x : WorldState) (e : Event) → IsReached s w → Tells s w e x → PrefixesStand w → PrefixesStand x
told_keeps l s w x e r t k = by_case (told_by l s w r e x t) where
  by_case : WorldGoesOn w x ⊎ Takes w x → PrefixesStand x
  by_case (inl g) = quiet_keeps l s w r x (inr (told_happens s w x e t)) g k
  by_case (inr takes) = taken_keeps l s w x r takes k (told_happens s w x e t)
