-- What stands of the prefixes of a network stands still where a prefix in doubt is settled.
use Rattle.std.proofs.Common.{◌≡◌, ◌≢◌, refl, sym, ap, ◌∙◌, subst, ℕ, true, false, inl, inr, ◌⊎◌, List, Contains, Some, None}
use Rattle.std.proofs.lemmas.Bool.{true≢false, cases_eq}
use Rattle.std.proofs.lemmas.Option.{none-some, same_Some}
use Rattle.grasp_agent.specs.Replies.{after_settling}
use Rattle.grasp_agent.specs.States.{unsent_of}
use Rattle.grasp_pool.proofs.Maximal.{cases_prefix}
use Rattle.grasp_pool.proofs.Meanings.{settle_means}
use Rattle.grasp_pool.specs.Functions.{after_settle}
use Rattle.grasp_pool.specs.Holdings.{IsFree, IsListed, Settles}
use Rattle.grasp_pool.specs.Spans.{Apart}
use Rattle.grasp_session.specs.Messages.{Side}
use Rattle.grasp_session.specs.Says.{IsAt}
use Rattle.grasp_session.specs.Sessions.{SessionState}
use Rattle.grasp_types.specs.Prefix.{AddressBlock as Prefix, span_of}
use Rattle.grasp_types.specs.declared.session.Handle.{Handle}
use Rattle.grasp_laws_network.proofs.Lives.{is_present_life, present_is, present_member, same_member, same_present, same_is_present}
use Rattle.grasp_laws_network.proofs.LivesKept.{life_member, offer_life}
use Rattle.grasp_laws_network.proofs.Settled.{IsSameOffer, Settling}
use Rattle.grasp_laws_network.specs.Authorities.{Holds, Reserves, Keeps, MayAccept, IsAuthority}
use Rattle.grasp_model_network.specs.Runs.{IsReached}
use Rattle.grasp_model_network.specs.Sending.{seat_with}
use Rattle.grasp_model_network.specs.Setting.{Setting, numbered}
use Rattle.grasp_model_network.specs.World.{Seat, Offered, WorldState, seat_at, end_of, is_present, member_of, present_life}
use Rattle.grasp_laws_agents.specs.Giving.{IsOpenOffer, IsOwnSession, OffersIn}
use Rattle.grasp_laws_prefixes.proofs.Asked.{placed_still}
use Rattle.grasp_laws_prefixes.proofs.EntryOffers.{offers_reserved, same_offers}
use Rattle.grasp_laws_prefixes.proofs.Members.{own_listed}
use Rattle.grasp_laws_prefixes.proofs.Networks.{WentOn, same_said}
use Rattle.grasp_laws_prefixes.proofs.NeverAccepted.{stays_unaccepted, still_unaccepted}
use Rattle.grasp_laws_prefixes.proofs.OneNode.{each_node}
use Rattle.grasp_laws_prefixes.proofs.Places.{same_stay}
use Rattle.grasp_laws_prefixes.proofs.QuietKeeps.{may_before}
use Rattle.grasp_laws_prefixes.proofs.Standing.{offer_unsent, IsEndAt, IsOfferIn, IsOfferedOn, WasSettledOn, IsPlaced, StaysUnaccepted, OffersAreKnown, PrefixesStand, AllStay, NothingHappens}
use Rattle.grasp_laws_prefixes.specs.Apart.{HeldApart, offer_on}
use Rattle.grasp_laws_prefixes.specs.Grounds.{Grounds}
use Rattle.grasp_laws_prefixes.specs.Known.{HasInDoubt}

module _ (l : Grounds) (s : Setting) (w x : WorldState) (node : ℕ) (p : Prefix) (r : IsReached s w) (t : Settling w node p x) where
  -- ---- the life that settles

  abbrev pub life : ℕ
  life = present_life w node

  abbrev pub new : Seat
  new = seat_with t.seat.core (after_settling t.seat.agent p)

  pub settles : Settles t.seat.agent.pool (after_settle t.seat.agent.pool p) p
  settles = settle_means t.seat.agent.pool p (l.kept s w r (present_life w node) t.seat t.here).pool t.doubtful

  -- whose each offer's life is
  of_member : (o : Offered) → Contains w.offers o → numbered w.lives o.node ≡ Some (member_of w o.node)
  of_member o listed = life_member s w o.node (l.lives s w r) (offer_life s w o r listed)

  pub life_own : member_of w life ≡ node
  life_own = present_member w t.offer.node node (of_member t.offer t.is.listed ∙ ap (λ m. Some m) t.is.member)

  pub life_present : is_present w life ≡ true
  life_present = present_is w node life_own

  pub same_presence : (n : ℕ) → is_present x n ≡ is_present w n
  same_presence n = same_is_present w x n t.lives

  -- what holds of it as it is now, and of each other one, holds of every life
  pub by_life : (P : ℕ → Seat → Type 0) → P life new → ((n : ℕ) (seat : Seat) → n ≢ life → seat_at w n ≡ Some seat → P n seat) → (n : ℕ) (seat : Seat) → seat_at x n ≡ Some seat → P n seat
  by_life P = each_node w x (present_life w node) new t.own t.others P

  pub settle_happens : NothingHappens w x
  settle_happens = record {
    said = same_said w x t.streams;
    going = by_life (WentOn w) (λ stream g. (t.seat, t.here, g)) (λ n z apart found stream g. (z, found, g));
    present = λ n seat here is. sym (same_presence n) ∙ is;
  }

  pub all_stay : AllStay w.streams x.streams
  all_stay = same_stay w.streams x.streams t.streams

  -- ---- what is held

  -- it was held, or it is of the prefix and of the life that has settled it
  pub held_before : (n a : ℕ) → Holds x n a → Holds w n a ⊎ ((n ≡ life) × span_of p a)
  held_before n a h = by_life (λ m z. IsFree z.agent.pool a → Holds w m a ⊎ ((m ≡ life) × span_of p a)) (λ now. own ((settles.free a).0 now))
      (λ m z apart found now. inl (record { seat = z; here = found; free = now })) n h.seat h.here h.free where
        own : IsFree t.seat.agent.pool a ⊎ span_of p a → Holds w life a ⊎ ((life ≡ life) × span_of p a)
        own (inl free) = inl (record { seat = t.seat; here = t.here; free = free })
        own (inr span) = inr (refl, span)

  reserved_before : (n : ℕ) (q : Prefix) → Reserves x n q → Reserves w n q
  reserved_before n q h = by_life (λ m z. Contains z.agent.pool.reserved q → Reserves w m q) (λ now. record { seat = t.seat; here = t.here; reserved = now })
      (λ m z apart found now. record { seat = z; here = found; reserved = now }) n h.seat h.here h.reserved

  module _ (k : PrefixesStand w) where
    -- ---- what may be accepted

    -- as far as is seen of its stream, the settled offer might be
    pub offer_authority : IsAuthority w t.offer
    offer_authority = record {
      listed = t.is.listed;
      kept = k.known.kept t.offer t.is.listed;
      live = subst (λ z. MayAccept w t.offer z) (sym t.on) (record { talk = t.talk; here = t.stands; open_still = t.never.unaccepted });
    }

    -- what may be accepted might be, and isn't the settled offer
    pub authority_before : (o : Offered) → IsAuthority x o → IsAuthority w o × (¬ IsSameOffer t.offer o)
    authority_before o h =
        let f = t.were o h.listed in (
          record {
            listed = f.0;
            kept = k.known.kept o f.0;
            live = may_before l s w r x (inr settle_happens) all_stay o (k.known.placed o f.0) (reserved_before o.node o.prefix) h.live;
          },
          f.1,
        )

    pub span_there : (a : ℕ) → span_of p a → span_of t.offer.prefix a
    span_there a span = subst (λ q. span_of q a) (sym t.is.prefix) span

    held : HeldApart x
    held n m a apart h j = by_case (held_before n a h) (held_before m a j) where
      by_case : Holds w n a ⊎ ((n ≡ life) × span_of p a) → Holds w m a ⊎ ((m ≡ life) × span_of p a) → ⊥
      by_case (inl u) (inl v) = k.held n m a apart u v
      by_case (inl u) (inr v) = k.authorities.held t.offer offer_authority n a (span_there a v.1) u
      by_case (inr u) (inl v) = k.authorities.held t.offer offer_authority m a (span_there a u.1) v
      by_case (inr u) (inr v) = apart (u.0 ∙ sym v.0)

    auth_held : (o : Offered) → IsAuthority x o → (n a : ℕ) → span_of o.prefix a → ¬ Holds x n a
    auth_held o h n a span j = by_case (authority_before o h) (held_before n a j) where
      by_case : IsAuthority w o × (¬ IsSameOffer t.offer o) → Holds w n a ⊎ ((n ≡ life) × span_of p a) → ⊥
      by_case b (inl u) = k.authorities.held o b.0 n a span u
      by_case b (inr u) =
          k.authorities.others t.offer o offer_authority b.0 (λ e. b.1 (ap (λ (z : Offered). z.node) e, ap (λ (z : Offered). z.prefix) e)) a (span_there a u.1) span

    auth_others : (o q : Offered) → IsAuthority x o → IsAuthority x q → ¬ (o ≡ q) → Apart o.prefix q.prefix
    auth_others o q h j = k.authorities.others o q (authority_before o h).0 (authority_before q j).0

    -- ---- what is listed

    -- the settled offer is the only one of the member and the prefix
    only : (o : Offered) → Contains w.offers o → member_of w o.node ≡ node → o.prefix ≡ p → t.offer ≡ o
    only o listed member same = k.known.once t.offer o t.is.listed listed (t.is.member ∙ sym member) (t.is.prefix ∙ sym same)

    pub another : (o : Offered) → Contains w.offers o → ¬ IsSameOffer t.offer o → member_of w o.node ≡ node → o.prefix ≢ p
    another o listed apart member same = let e = only o listed member same in apart (ap (λ (z : Offered). z.node) e, ap (λ (z : Offered). z.prefix) e)

    -- what was listed is so, or it is the settled offer
    abbrev pub IsStill : Offered → Type 0
    IsStill o = (Contains x.offers o × (¬ IsSameOffer t.offer o)) ⊎ (t.offer ≡ o)

    pub still : (o : Offered) → Contains w.offers o → IsStill o
    still o listed = by_parts (cases_eq t.offer.node o.node) (cases_prefix t.offer.prefix o.prefix) where
      stays : ¬ IsSameOffer t.offer o → IsStill o
      stays apart = inl (t.stay o listed apart, apart)

      by_parts : (t.offer.node ≡ o.node) ⊎ (t.offer.node ≡ o.node → ⊥) → (t.offer.prefix ≡ o.prefix) ⊎ (¬ (t.offer.prefix ≡ o.prefix)) → IsStill o
      by_parts (inl e) (inl f) = inr (k.known.once t.offer o t.is.listed listed (ap (λ m. member_of w m) e) f)
      by_parts (inl e) (inr differs) = stays (λ same. differs same.1)
      by_parts (inr apart) u = stays (λ same. apart same.0)

    unsent_still : (n : ℕ) (q : Prefix) → Contains w.offers (offer_unsent n q) → Contains x.offers (offer_unsent n q)
    unsent_still n q listed = by_case (still (offer_unsent n q) listed) where
      by_case : IsStill (offer_unsent n q) → Contains x.offers (offer_unsent n q)
      by_case (inl stays) = stays.0
      by_case (inr e) = absurd (none-some t.place (sym (ap (λ (z : Offered). z.talk) e) ∙ t.on))

    -- an offer in a session is listed for its stream, and isn't the settled one; or it is that
    on_stream : (os us : List Offered) (n : ℕ) (side : Side) (stream : ℕ) (q : Prefix) → (o : IsOfferIn os w n side stream q)
        → Contains us (offer_on n q o.place) → IsOfferIn us x n side stream q
    on_stream os us n side stream q o listed = record {
      place = o.place;
      at = subst (λ ts. IsEndAt ts o.place side (end_of n stream)) (sym t.streams) o.at;
      listed = listed;
    }

    -- what was settled before is so
    settled_on : (n : ℕ) (side : Side) (stream : ℕ) (q : Prefix) → WasSettledOn w n side stream q → WasSettledOn x n side stream q
    settled_on n side stream q o = on_stream w.settled x.settled n side stream q o (t.stays_settled (offer_on n q o.place) o.listed)

    -- and what was listed
    listed_on : (n : ℕ) (side : Side) (stream : ℕ) (q : Prefix) → (o : IsOfferedOn w n side stream q)
        → (IsOfferedOn x n side stream q × (¬ IsSameOffer t.offer (offer_on n q o.place))) ⊎ (WasSettledOn x n side stream q × (t.offer ≡ offer_on n q o.place))
    listed_on n side stream q o = by_case (still (offer_on n q o.place) o.listed) where
      by_case : IsStill (offer_on n q o.place)
          → (IsOfferedOn x n side stream q × (¬ IsSameOffer t.offer (offer_on n q o.place))) ⊎ (WasSettledOn x n side stream q × (t.offer ≡ offer_on n q o.place))
      by_case (inl stays) = inl (on_stream w.offers x.offers n side stream q o stays.0, stays.1)
      by_case (inr e) = inr (on_stream w.offers x.settled n side stream q o (subst (λ z. Contains x.settled z) e t.joins), e)

    pub known_on : (n : ℕ) (side : Side) (stream : ℕ) (q : Prefix) → IsOfferedOn w n side stream q ⊎ WasSettledOn w n side stream q
        → IsOfferedOn x n side stream q ⊎ WasSettledOn x n side stream q
    known_on n side stream q (inr o) = inr (settled_on n side stream q o)
    known_on n side stream q (inl o) = by_case (listed_on n side stream q o) where
      by_case : (IsOfferedOn x n side stream q × (¬ IsSameOffer t.offer (offer_on n q o.place))) ⊎ (WasSettledOn x n side stream q × (t.offer ≡ offer_on n q o.place))
          → IsOfferedOn x n side stream q ⊎ WasSettledOn x n side stream q
      by_case (inl a) = inl a.0
      by_case (inr a) = inr a.0

    -- ---- what is in doubt

    doubt_still : (n : ℕ) (q : Prefix) → (n ≡ life → q ≢ p) → HasInDoubt w n q → HasInDoubt x n q
    doubt_still n q differs h = by_node (cases_eq n (present_life w node)) where
      by_node : (n ≡ life) ⊎ (n ≡ life → ⊥) → HasInDoubt x n q
      by_node (inr apart) = record { seat = h.seat; here = t.others n apart ∙ h.here; doubtful = h.doubtful }
      by_node (inl same) = record {
        seat = new;
        here = ap (λ m. seat_at x m) same ∙ t.own;
        doubtful = (settles.doubtful q).1
            (subst (λ (z : Seat). Contains z.agent.pool.doubtful q) (same_Some h.seat t.seat (sym h.here ∙ (ap (λ m. seat_at w m) same ∙ t.here))) h.doubtful, differs same);
      }

    -- ---- all that is known

    once : (o q : Offered) → Contains x.offers o → Contains x.offers q → member_of x o.node ≡ member_of x q.node → o.prefix ≡ q.prefix → o ≡ q
    once o q h j e f = k.known.once o q (t.were o h).0 (t.were q j).0 (sym (same_member w x o.node t.lives) ∙ (e ∙ same_member w x q.node t.lives)) f

    kept : (o : Offered) → Contains x.offers o → Keeps x o.node o.prefix
    kept o h = by_node (cases_eq o.node (present_life w node)) where
      was : Contains w.offers o × (¬ IsSameOffer t.offer o)
      was = t.were o h

      in_pool : o.node ≡ life → IsListed t.seat.agent.pool o.prefix → IsListed (after_settle t.seat.agent.pool p) o.prefix
      in_pool same (inl reserved) = inl reserved
      in_pool same (inr doubtful) = inr ((settles.doubtful o.prefix).1 (doubtful, another o was.0 was.1 (ap (λ m. member_of w m) same ∙ life_own)))

      by_node : (o.node ≡ life) ⊎ (o.node ≡ life → ⊥) → Keeps x o.node o.prefix
      by_node (inl same) = record {
        seat = new;
        here = ap (λ m. seat_at x m) same ∙ t.own;
        listed = in_pool same (own_listed w k.known (present_life w node) t.seat t.here o was.0 same);
      }
      by_node (inr apart) = let c = k.known.kept o was.0 in record { seat = c.seat; here = t.others o.node apart ∙ c.here; listed = c.listed }

    carried : (o : Offered) → Contains x.offers o → is_present x o.node ≡ false → HasInDoubt x (present_life x (member_of x o.node)) o.prefix
    carried o h past =
        let was = t.were o h in
        subst (λ n. HasInDoubt x n o.prefix) (sym (same_present w x (member_of x o.node) t.lives ∙ ap (λ m. present_life w m) (same_member w x o.node t.lives)))
        (doubt_still (present_life w (member_of w o.node)) o.prefix
        (λ same. another o was.0 was.1 (sym (present_member w o.node (member_of w o.node) (of_member o was.0)) ∙ (ap (λ n. member_of w n) same ∙ life_own)))
        (k.known.carried o was.0 (sym (same_presence o.node) ∙ past)))

    unsent : (n : ℕ) (seat : Seat) → seat_at x n ≡ Some seat → (q : Prefix) → unsent_of seat.agent.back ≡ Some q → Contains x.offers (offer_unsent n q)
    unsent n seat found q = by_life (λ m z. unsent_of z.agent.back ≡ Some q → Contains x.offers (offer_unsent m q))
        (λ e. unsent_still (present_life w node) q (k.known.unsent (present_life w node) t.seat t.here q e)) (λ m z apart here e. unsent_still m q (k.known.unsent m z here q e)) n seat found

    -- what is offered in a session isn't in doubt, and so it isn't what was settled
    offered : (n : ℕ) (seat : Seat) → seat_at x n ≡ Some seat → is_present x n ≡ true → (side : Side) (h : Handle) (q : Prefix) → OffersIn seat.agent side h q
        → (z : SessionState) → IsOwnSession seat.core.sessions h side z → IsOfferedOn x n side z.stream q
    offered n seat found present side h q o z own = by_life
        (λ m y. is_present x m ≡ true → OffersIn y.agent side h q → IsOwnSession y.core.sessions h side z → IsOfferedOn x m side z.stream q) (λ is there mine. here_on there mine)
        (λ m y apart here is there mine. there_on m y apart here (sym (same_presence m) ∙ is) there mine) n seat found present o own where
          here_on : OffersIn (after_settling t.seat.agent p) side h q → IsOwnSession t.seat.core.sessions h side z → IsOfferedOn x life side z.stream q
          here_on there mine = by_case (k.known.offered (present_life w node) t.seat t.here life_present side h q offers z mine) where
            offers : OffersIn t.seat.agent side h q
            offers = same_offers t.seat.agent (after_settling t.seat.agent p) side h q refl refl there

            by_case : IsOfferedOn w life side z.stream q → IsOfferedOn x life side z.stream q
            by_case i = from (listed_on (present_life w node) side z.stream q i) where
              from : (IsOfferedOn x life side z.stream q × (¬ IsSameOffer t.offer (offer_on life q i.place))) ⊎ (WasSettledOn x life side z.stream q × (t.offer ≡ offer_on life q i.place))
                  → IsOfferedOn x life side z.stream q
              from (inl a) = a.0
              from (inr a) =
                  absurd
                  ((l.kept s w r (present_life w node) t.seat t.here).pool.once q (offers_reserved t.seat.agent side h q (l.kept s w r (present_life w node) t.seat t.here) offers)
                  (subst (λ u. Contains t.seat.agent.pool.doubtful u) (sym t.is.prefix ∙ ap (λ (u : Offered). u.prefix) a.1) t.doubtful))

          there_on : (m : ℕ) (y : Seat) → m ≢ life → seat_at w m ≡ Some y → is_present w m ≡ true → OffersIn y.agent side h q → IsOwnSession y.core.sessions h side z → IsOfferedOn x m side z.stream q
          there_on m y apart here is there mine = by_case (k.known.offered m y here is side h q there z mine) where
            by_case : IsOfferedOn w m side z.stream q → IsOfferedOn x m side z.stream q
            by_case i = from (listed_on m side z.stream q i) where
              from : (IsOfferedOn x m side z.stream q × (¬ IsSameOffer t.offer (offer_on m q i.place))) ⊎ (WasSettledOn x m side z.stream q × (t.offer ≡ offer_on m q i.place)) → IsOfferedOn x m side z.stream q
              from (inl a) = a.0
              from (inr a) =
                  absurd
                  (apart
                  (is_present_life w m is
                  ∙ ap (λ n. present_life w n) (sym (ap (λ (u : Offered). member_of w u.node) a.1) ∙ t.is.member)))

    gone : (n : ℕ) (seat : Seat) → seat_at x n ≡ Some seat → (z : SessionState) (q : Prefix) → Contains seat.core.sessions.gone z → z.owner ≡ 1 → IsOpenOffer z.view q
        → (IsOfferedOn x n z.view.role z.stream q × Contains seat.agent.pool.doubtful q) ⊎ WasSettledOn x n z.view.role z.stream q
    gone n seat found z q was own is_open = by_life
        (λ m y. Contains y.core.sessions.gone z → (IsOfferedOn x m z.view.role z.stream q × Contains y.agent.pool.doubtful q) ⊎ WasSettledOn x m z.view.role z.stream q)
        (λ there. mine (k.known.gone (present_life w node) t.seat t.here z q there own is_open)) (λ m y apart here there. theirs m y (k.known.gone m y here z q there own is_open)) n seat found was where
          mine : (IsOfferedOn w life z.view.role z.stream q × Contains t.seat.agent.pool.doubtful q) ⊎ WasSettledOn w life z.view.role z.stream q
              → (IsOfferedOn x life z.view.role z.stream q × Contains (after_settle t.seat.agent.pool p).doubtful q) ⊎ WasSettledOn x life z.view.role z.stream q
          mine (inr o) = inr (settled_on (present_life w node) z.view.role z.stream q o)
          mine (inl o) = from (listed_on (present_life w node) z.view.role z.stream q o.0) where
            from : (IsOfferedOn x life z.view.role z.stream q × (¬ IsSameOffer t.offer (offer_on life q o.0.place))) ⊎ (WasSettledOn x life z.view.role z.stream q × (t.offer ≡ offer_on life q o.0.place))
                → (IsOfferedOn x life z.view.role z.stream q × Contains (after_settle t.seat.agent.pool p).doubtful q) ⊎ WasSettledOn x life z.view.role z.stream q
            from (inl a) = inl (a.0, (settles.doubtful q).1 (o.1, another (offer_on (present_life w node) q o.0.place) o.0.listed a.1 life_own))
            from (inr a) = inr a.0

          theirs : (m : ℕ) (y : Seat) → (IsOfferedOn w m z.view.role z.stream q × Contains y.agent.pool.doubtful q) ⊎ WasSettledOn w m z.view.role z.stream q
              → (IsOfferedOn x m z.view.role z.stream q × Contains y.agent.pool.doubtful q) ⊎ WasSettledOn x m z.view.role z.stream q
          theirs m y (inr o) = inr (settled_on m z.view.role z.stream q o)
          theirs m y (inl o) = from (listed_on m z.view.role z.stream q o.0) where
            from : (IsOfferedOn x m z.view.role z.stream q × (¬ IsSameOffer t.offer (offer_on m q o.0.place))) ⊎ (WasSettledOn x m z.view.role z.stream q × (t.offer ≡ offer_on m q o.0.place))
                → (IsOfferedOn x m z.view.role z.stream q × Contains y.agent.pool.doubtful q) ⊎ WasSettledOn x m z.view.role z.stream q
            from (inl a) = inl (a.0, o.1)
            from (inr a) = inr a.0

    ended : (n : ℕ) (seat : Seat) → seat_at x n ≡ Some seat → is_present x n ≡ false → (place : ℕ) (z : SessionState) (q : Prefix) → IsAt seat.core.sessions place z → z.owner ≡ 1 → IsOpenOffer z.view q
        → IsOfferedOn x n z.view.role z.stream q ⊎ WasSettledOn x n z.view.role z.stream q
    ended n seat found past place z q at own is_open = by_life
        (λ m y. is_present x m ≡ false → IsAt y.core.sessions place z → IsOfferedOn x m z.view.role z.stream q ⊎ WasSettledOn x m z.view.role z.stream q)
        (λ is there. absurd (true≢false (sym life_present ∙ (sym (same_presence (present_life w node)) ∙ is))))
        (λ m y apart here is there. known_on m z.view.role z.stream q (k.known.ended m y here (sym (same_presence m) ∙ is) place z q there own is_open)) n seat found past at

    settled : (o : Offered) → Contains x.settled o → StaysUnaccepted x o
    settled o h = by_case (t.was_settled o h) where
      offer_stays : IsPlaced w.streams t.offer ⊎ (t.offer.talk ≡ None) → StaysUnaccepted w t.offer
      offer_stays (inl at) = stays_unaccepted w t.offer at t.place t.talk t.on t.stands t.never
      offer_stays (inr none) = absurd (none-some t.place (sym none ∙ t.on))

      by_case : Contains w.settled o ⊎ (t.offer ≡ o) → StaysUnaccepted x o
      by_case (inl old) = still_unaccepted l s w r x all_stay o (k.known.settled o old) settle_happens
      by_case (inr e) = subst (λ z. StaysUnaccepted x z) e (still_unaccepted l s w r x all_stay t.offer (offer_stays (k.known.placed t.offer t.is.listed)) settle_happens)

    offers_known : OffersAreKnown x
    offers_known = record {
      once = once;
      placed = λ o h. placed_still l s w r x (inr settle_happens) all_stay o (k.known.placed o (t.were o h).0);
      kept = kept;
      carried = carried;
      unsent = unsent;
      offered = offered;
      gone = gone;
      ended = ended;
      settled = settled;
    }

    pub settle_keeps : PrefixesStand x
    settle_keeps = record { known = offers_known; held = held; authorities = record { held = auth_held; others = auth_others } }
