-- What stands of the prefixes of a network stands still where a node begins anew.
use Rattle.std.proofs.Common.{◌≡◌, ◌≢◌, refl, sym, ap, ◌∙◌, subst, ℕ, ◌+◌, true, false, inl, inr, ◌⊎◌, List, [], length, slice_get, Contains, Some}
use Rattle.std.proofs.lemmas.Bool.{true≢false, cases_eq}
use Rattle.std.proofs.lemmas.Option.{none-some}
use Rattle.grasp_agent.specs.Kept.{IsKept}
use Rattle.grasp_agent.specs.Laws.{IsToBeOffered, by_act, by_return}
use Rattle.grasp_agent.specs.Reopening.{retired, IsToOffer}
use Rattle.grasp_agent.specs.States.{unsent_of}
use Rattle.grasp_agent.specs.declared.giving.Giving.{Giving}
use Rattle.grasp_laws_agent.proofs.Retiring.{agents_retire}
use Rattle.grasp_laws_agent.specs.Retiring.{RetiringMeans}
use Rattle.grasp_pool.specs.Answers.{IsReopened}
use Rattle.grasp_pool.specs.Functions.{pool_of_image}
use Rattle.grasp_pool.specs.Holdings.{Holding, IsFree, IsListed}
use Rattle.grasp_pool.specs.Spans.{Apart, Covers}
use Rattle.grasp_pool.specs.declared.image.PoolImage.{PoolImage}
use Rattle.grasp_laws_session.proofs.Runs.{none_live}
use Rattle.grasp_session.specs.Messages.{Side, Far}
use Rattle.grasp_session.specs.Says.{IsAt}
use Rattle.grasp_session.specs.Sessions.{SessionState, Sessions, no_sessions}
use Rattle.grasp_types.specs.Prefix.{AddressBlock as Prefix, span_of}
use Rattle.grasp_types.specs.declared.session.Handle.{Handle}
use Rattle.grasp_laws_network.proofs.Begun.{begun_sessions, begun_pool, begun_back, begun_giving, reopened, reopened_doubts}
use Rattle.grasp_laws_network.proofs.Here.{numbered_within}
use Rattle.grasp_laws_network.proofs.Lives.{present_is, present_member, others_present}
use Rattle.grasp_laws_network.proofs.LivesKept.{life_member, restart_present, restart_ends, restart_members, restart_still_present, restart_was_present}
use Rattle.grasp_laws_network.proofs.Restarted.{Restarting, IsRestarted, ended, goes_on, begins, retired_seat, begun_seat, same_end}
use Rattle.grasp_laws_network.specs.Authorities.{Holds, Reserves, Keeps, IsAuthority}
use Rattle.grasp_laws_network.specs.Lives.{LivesStand}
use Rattle.grasp_model_network.specs.Runs.{IsReached}
use Rattle.grasp_model_network.specs.Setting.{Setting}
use Rattle.grasp_model_network.specs.World.{Seat, Offered, WorldState, seat_at, end_of, is_present, member_of, present_life}
use Rattle.grasp_laws_agents.specs.Giving.{EntryStands, IsDeciding, IsOpenOffer, IsOwnSession, OffersIn, in_entry, in_return}
use Rattle.grasp_laws_prefixes.proofs.Asked.{placed_still}
use Rattle.grasp_laws_prefixes.proofs.EntryOffers.{one_offer, offers_reserved, unsent_unoffered}
use Rattle.grasp_laws_prefixes.proofs.Givers.{Gave, by_offer, by_gone}
use Rattle.grasp_laws_prefixes.proofs.Listing.{none_in}
use Rattle.grasp_laws_prefixes.proofs.Members.{former_doubt}
use Rattle.grasp_laws_prefixes.proofs.Networks.{WentOn}
use Rattle.grasp_laws_prefixes.proofs.NeverAccepted.{still_unaccepted}
use Rattle.grasp_laws_prefixes.proofs.OpenOffers.{live_legal, live_gave}
use Rattle.grasp_laws_prefixes.proofs.OwnSessions.{one_session}
use Rattle.grasp_laws_prefixes.proofs.Places.{end_stays}
use Rattle.grasp_laws_prefixes.proofs.QuietKeeps.{may_before}
use Rattle.grasp_laws_prefixes.proofs.Speech.{deciding_closed}
use Rattle.grasp_laws_prefixes.proofs.Standing.{offer_unsent, IsOfferIn, IsOfferedOn, WasSettledOn, OffersAreKnown, PrefixesStand, AllStay, NothingHappens}
use Rattle.grasp_laws_prefixes.proofs.ToOffer.{decided_entry, decided_offers, unsent_is, to_offer_reserved, IsAuthorityOf, decided_there, to_offer_authority}
use Rattle.grasp_laws_prefixes.specs.Apart.{HeldApart, offer_on}
use Rattle.grasp_laws_prefixes.specs.Grounds.{Grounds}
use Rattle.grasp_laws_prefixes.specs.Known.{HasInDoubt}

module _ (l : Grounds) (s : Setting) (w x : WorldState) (node : ℕ) (image : PoolImage) (r : IsReached s w) (t : Restarting s w node image x) where
  -- ---- the life that ends, and the one that begins

  abbrev pub life : ℕ
  life = present_life w node

  abbrev pub next : ℕ
  next = length w.seats + 1

  abbrev pub left : Seat
  left = retired_seat t.seat

  abbrev pub begun : Seat
  begun = begun_seat t.member image

  lives : LivesStand s w
  lives = l.lives s w r

  pub was_kept : IsKept t.seat.agent
  was_kept = l.kept s w r (present_life w node) t.seat t.here

  retires : RetiringMeans t.seat.agent
  retires = agents_retire t.seat.agent

  opens : IsReopened image (pool_of_image image)
  opens = reopened t.seat.agent image t.image_is

  life_own : member_of w life ≡ node
  life_own = lives.own node (numbered_within s.members node t.member t.found)

  pub life_present : is_present w life ≡ true
  life_present = present_is w node life_own

  begun_is : begun.agent.pool ≡ pool_of_image image
  begun_is = begun_pool t.member.plan (pool_of_image image)

  begun_none : begun.core.sessions ≡ no_sessions
  begun_none = begun_sessions t.member.plan (pool_of_image image)

  -- what holds of the two, and of each other life, holds of every life
  pub by_life : (P : ℕ → Seat → Type 0) → P life left → P next begun → ((n : ℕ) (seat : Seat) → n ≢ life → seat_at w n ≡ Some seat → P n seat) → (n : ℕ) (seat : Seat) → seat_at x n ≡ Some seat → P n seat
  by_life P ends_so begins_so others n seat found = by_case (t.each n seat found) where
    by_case : IsRestarted w (present_life w node) left begun n seat → P n seat
    by_case (ended n_is is) = subst (λ m. P m seat) (sym n_is) (subst (λ z. P life z) is ends_so)
    by_case (goes_on apart here) = others n seat apart here
    by_case (begins n_is is) = subst (λ m. P m seat) (sym n_is) (subst (λ z. P next z) is begins_so)

  none_live_there : (place : ℕ) (z : SessionState) → IsAt begun.core.sessions place z → ⊥
  none_live_there place z at = none_live 64 place z (subst (λ (y : Sessions). IsAt y place z) begun_none at)

  none_gone_there : (z : SessionState) → Contains begun.core.sessions.gone z → ⊥
  none_gone_there z gone = none_in z (subst (λ (y : Sessions). Contains y.gone z) begun_none gone)

  pub restart_happens : NothingHappens w x
  restart_happens = record {
    said = λ place u stands. let v = t.told place u stands in (v.0, (v.1, v.2.same.said));
    going = by_life (WentOn w) (λ stream g. (t.seat, t.here, g)) (λ stream g. absurd (none_live_there g.place g.session g.at)) (λ n z apart found stream g. (z, found, g));
    present = λ n seat here is. (restart_was_present s w node image x t lives n seat here is).0;
  }

  all_stay : AllStay w.streams x.streams
  all_stay place u stands =
      let v = t.told place u stands in
      record { after = v.0; stands = v.1; ends = λ side e at. same_end s node (present_life w node) u v.0 v.2 side ∙ at; newer = []; said = v.2.same.said }

  -- ---- what is held

  -- it was held by another life, or the new one has it of the image
  held_before : (n a : ℕ) → Holds x n a → (Holds w n a × (n ≢ life)) ⊎ ((n ≡ next) × Covers image.free a)
  held_before n a h = by_life (λ m z. IsFree z.agent.pool a → (Holds w m a × (m ≢ life)) ⊎ ((m ≡ next) × Covers image.free a))
      (λ now. absurd (none_in now.0 (subst (λ ps. Contains ps now.0) retires.free now.1)))
      (λ now. inr (refl, (opens.free a).0 (subst (λ (q : Holding). IsFree q a) begun_is now)))
      (λ m z apart found now. inl (record { seat = z; here = found; free = now }, apart)) n h.seat h.here h.free

  reserved_before : (n : ℕ) (q : Prefix) → Reserves x n q → Reserves w n q
  reserved_before n q h = by_life (λ m z. Contains z.agent.pool.reserved q → Reserves w m q)
      (λ now. record { seat = t.seat; here = t.here; reserved = ((retires.reserved was_kept q).0 now).0 })
      (λ now. absurd (none_in q (subst (λ ps. Contains ps q) opens.reserved (subst (λ (u : Holding). Contains u.reserved q) begun_is now))))
      (λ m z apart found now. record { seat = z; here = found; reserved = now }) n h.seat h.here h.reserved

  -- what was to be offered isn't listed any more
  none_left : (q : Prefix) → IsToBeOffered t.seat.agent q → ¬ IsListed (retired t.seat.agent).pool q
  none_left q to_offer (inl reserved) = ((retires.reserved was_kept q).0 reserved).1 to_offer
  none_left q to_offer (inr doubtful) =
      was_kept.pool.once q (to_offer_reserved t.seat.agent q was_kept to_offer) (subst (λ ps. Contains ps q) retires.doubtful doubtful)

  module _ (k : PrefixesStand w) where
    -- what the new life holds the old one held, or it was in an offer that might be accepted and is no longer listed
    pub data BegunHeld (a : ℕ) : Type 0 where
      was_held : Holds w life a → BegunHeld a
      was_offered : (o : Offered) → IsAuthority w o → span_of o.prefix a → ¬ Contains x.offers o → BegunHeld a

    begun_held : (a : ℕ) → Covers image.free a → BegunHeld a
    begun_held a covers = by_case (t.image_is.free a covers) where
      by_case : IsFree t.seat.agent.pool a ⊎ IsToOffer t.seat.agent a → BegunHeld a
      by_case (inl free) = was_held (record { seat = t.seat; here = t.here; free = free })
      by_case (inr o) = from (to_offer_authority l s w r (present_life w node) t.seat t.here k life_present o.0 o.1) where
        from : IsAuthorityOf w life o.0 → BegunHeld a
        from u =
            was_offered u.offer u.authority (subst (λ q. span_of q a) (sym u.prefix) o.2)
            (λ listed. none_left o.0 o.1 (subst (λ q. IsListed (retired t.seat.agent).pool q) u.prefix ((t.were_offered u.offer listed).1 u.life)))

    pub holds_before : (n a : ℕ) → Holds x n a → (Holds w n a × (n ≢ life)) ⊎ ((n ≡ next) × BegunHeld a)
    holds_before n a h = by_case (held_before n a h) where
      by_case : (Holds w n a × (n ≢ life)) ⊎ ((n ≡ next) × Covers image.free a) → (Holds w n a × (n ≢ life)) ⊎ ((n ≡ next) × BegunHeld a)
      by_case (inl u) = inl u
      by_case (inr u) = inr (u.0, begun_held a u.1)

    -- another life doesn't hold it
    not_elsewhere : (n a : ℕ) → n ≢ life → BegunHeld a → ¬ Holds w n a
    not_elsewhere n a apart (was_held h) j = k.held n (present_life w node) a apart j h
    not_elsewhere n a apart (was_offered o auth span gone) j = k.authorities.held o auth n a span j

    held : HeldApart x
    held n m a apart h j = by_case (holds_before n a h) (holds_before m a j) where
      by_case : (Holds w n a × (n ≢ life)) ⊎ ((n ≡ next) × BegunHeld a) → (Holds w m a × (m ≢ life)) ⊎ ((m ≡ next) × BegunHeld a) → ⊥
      by_case (inl u) (inl v) = k.held n m a apart u.0 v.0
      by_case (inl u) (inr v) = not_elsewhere n a u.1 v.1 u.0
      by_case (inr u) (inl v) = not_elsewhere m a v.1 u.1 v.0
      by_case (inr u) (inr v) = apart (u.0 ∙ sym v.0)

    -- ---- what may be accepted

    pub authority_before : (o : Offered) → IsAuthority x o → IsAuthority w o
    authority_before o h =
        let f = t.were_offered o h.listed in
        record {
          listed = f.0;
          kept = k.known.kept o f.0;
          live = may_before l s w r x (inr restart_happens) all_stay o (k.known.placed o f.0) (reserved_before o.node o.prefix) h.live;
        }

    auth_held : (o : Offered) → IsAuthority x o → (n a : ℕ) → span_of o.prefix a → ¬ Holds x n a
    auth_held o h n a span j = by_case (holds_before n a j) where
      by_begun : BegunHeld a → ⊥
      by_begun (was_held u) = k.authorities.held o (authority_before o h) (present_life w node) a span u
      by_begun (was_offered u auth among gone) = k.authorities.others o u (authority_before o h) auth (λ e. gone (subst (λ z. Contains x.offers z) e h.listed)) a span among

      by_case : (Holds w n a × (n ≢ life)) ⊎ ((n ≡ next) × BegunHeld a) → ⊥
      by_case (inl u) = k.authorities.held o (authority_before o h) n a span u.0
      by_case (inr u) = by_begun u.1

    auth_others : (o q : Offered) → IsAuthority x o → IsAuthority x q → ¬ (o ≡ q) → Apart o.prefix q.prefix
    auth_others o q h j = k.authorities.others o q (authority_before o h) (authority_before q j)

    -- ---- what is listed

    on_stream : (os us : List Offered) (n : ℕ) (side : Side) (stream : ℕ) (q : Prefix) → (o : IsOfferIn os w n side stream q)
        → Contains us (offer_on n q o.place) → IsOfferIn us x n side stream q
    on_stream os us n side stream q o listed = record {
      place = o.place;
      at = end_stays w.streams x.streams all_stay o.place side (end_of n stream) o.at;
      listed = listed;
    }

    pub settled_on : (n : ℕ) (side : Side) (stream : ℕ) (q : Prefix) → WasSettledOn w n side stream q → WasSettledOn x n side stream q
    settled_on n side stream q o =
        on_stream w.settled x.settled n side stream q o (subst (λ (os : List Offered). Contains os (offer_on n q o.place)) (sym t.settled) o.listed)

    -- of another life
    pub listed_on : (n : ℕ) (side : Side) (stream : ℕ) (q : Prefix) → n ≢ life → IsOfferedOn w n side stream q → IsOfferedOn x n side stream q
    listed_on n side stream q apart o = on_stream w.offers x.offers n side stream q o (t.others_offered (offer_on n q o.place) o.listed apart)

    -- of the life that ends, where it is still listed there
    pub left_on : (side : Side) (stream : ℕ) (q : Prefix) → IsListed (retired t.seat.agent).pool q → IsOfferedOn w life side stream q → IsOfferedOn x life side stream q
    left_on side stream q listed o = on_stream w.offers x.offers (present_life w node) side stream q o (t.stays_offered (offer_on (present_life w node) q o.place) o.listed listed)

    in_doubt : (q : Prefix) → Contains t.seat.agent.pool.doubtful q → Contains (retired t.seat.agent).pool.doubtful q
    in_doubt q doubtful = subst (λ ps. Contains ps q) (sym retires.doubtful) doubtful

    -- ---- all that is known

    -- an offer that is listed is of a life that was there
    same_member_of : (o : Offered) → Contains x.offers o → member_of x o.node ≡ member_of w o.node
    same_member_of o h = let c = k.known.kept o (t.were_offered o h).0 in restart_members s w node image x t lives o.node c.seat c.here

    once : (o q : Offered) → Contains x.offers o → Contains x.offers q → member_of x o.node ≡ member_of x q.node → o.prefix ≡ q.prefix → o ≡ q
    once o q h j e f = k.known.once o q (t.were_offered o h).0 (t.were_offered q j).0 (sym (same_member_of o h) ∙ (e ∙ same_member_of q j)) f

    kept : (o : Offered) → Contains x.offers o → Keeps x o.node o.prefix
    kept o h = by_node (cases_eq o.node (present_life w node)) where
      by_node : (o.node ≡ life) ⊎ (o.node ≡ life → ⊥) → Keeps x o.node o.prefix
      by_node (inl same) = record { seat = left; here = ap (λ m. seat_at x m) same ∙ t.left; listed = (t.were_offered o h).1 same }
      by_node (inr apart) = let c = k.known.kept o (t.were_offered o h).0 in record { seat = c.seat; here = t.stays o.node c.seat apart c.here; listed = c.listed }

    module _ (o : Offered) (h : Contains x.offers o) where
      was_listed : Contains w.offers o
      was_listed = (t.were_offered o h).0

      -- an offer by a life of the member is listed at its end by the life that ends
      left_listed : member_of w o.node ≡ node → IsListed (retired t.seat.agent).pool o.prefix
      left_listed own = by_node (cases_eq o.node (present_life w node)) where
        by_node : (o.node ≡ life) ⊎ (o.node ≡ life → ⊥) → IsListed (retired t.seat.agent).pool o.prefix
        by_node (inl same) = (t.were_offered o h).1 same
        by_node (inr apart) = inr (in_doubt o.prefix (former_doubt w k.known (present_life w node) t.seat t.here o was_listed life_present (own ∙ sym life_own) apart))

      -- and so it is in doubt in the one that begins
      doubt_begun : member_of w o.node ≡ node → HasInDoubt x (present_life x (member_of x o.node)) o.prefix
      doubt_begun own = subst (λ n. HasInDoubt x n o.prefix) (sym (ap (λ m. present_life x m) (same_member_of o h ∙ own) ∙ restart_present s w node image x t lives)) (record {
        seat = begun;
        here = t.begun;
        doubtful = subst (λ (q : Holding). Contains q.doubtful o.prefix) (sym begun_is) (reopened_doubts t.seat.agent image o.prefix t.image_is (left_listed own));
      })

      -- one by a life of another member is in doubt where it was
      doubt_elsewhere : member_of w o.node ≢ node → is_present x o.node ≡ false → HasInDoubt x (present_life x (member_of x o.node)) o.prefix
      doubt_elsewhere other past = from (k.known.carried o was_listed (sym (restart_still_present s w node image x t lives o.node c.seat c.here apart) ∙ past)) where
        c : Keeps w o.node o.prefix
        c = k.known.kept o was_listed

        apart : o.node ≢ life
        apart same = other (ap (λ n. member_of w n) same ∙ life_own)

        present_apart : present_life w (member_of w o.node) ≢ life
        present_apart same =
            other
            (sym (present_member w o.node (member_of w o.node) (life_member s w o.node lives (numbered_within w.seats o.node c.seat c.here))) ∙ (ap (λ n. member_of w n) same ∙ life_own))

        from : HasInDoubt w (present_life w (member_of w o.node)) o.prefix → HasInDoubt x (present_life x (member_of x o.node)) o.prefix
        from d =
            subst (λ n. HasInDoubt x n o.prefix) (sym (ap (λ m. present_life x m) (same_member_of o h) ∙ others_present w x node t.lives (member_of w o.node) other))
            (record { seat = d.seat; here = t.stays (present_life w (member_of w o.node)) d.seat present_apart d.here; doubtful = d.doubtful })

      carried : is_present x o.node ≡ false → HasInDoubt x (present_life x (member_of x o.node)) o.prefix
      carried past = by_member (cases_eq (member_of w o.node) node) where
        by_member : (member_of w o.node ≡ node) ⊎ (member_of w o.node ≡ node → ⊥) → HasInDoubt x (present_life x (member_of x o.node)) o.prefix
        by_member (inl own) = doubt_begun own
        by_member (inr other) = doubt_elsewhere other past

    unsent : (n : ℕ) (seat : Seat) → seat_at x n ≡ Some seat → (q : Prefix) → unsent_of seat.agent.back ≡ Some q → Contains x.offers (offer_unsent n q)
    unsent n seat found q = by_life (λ m z. unsent_of z.agent.back ≡ Some q → Contains x.offers (offer_unsent m q))
        (λ e. absurd (none-some q (sym retires.back ∙ e))) (λ e. absurd (none-some q (sym (ap unsent_of (begun_back t.member.plan (pool_of_image image))) ∙ e)))
        (λ m z apart here e. t.others_offered (offer_unsent m q) (k.known.unsent m z here q e) apart) n seat found

    -- the agent of a life that begins offers nothing
    pub none_offered : (side : Side) (h : Handle) (q : Prefix) → OffersIn begun.agent side h q → ⊥
    none_offered side h q (in_entry far place g at on offer) =
        none-some g (sym (ap (λ (gs : List Giving). slice_get gs place) (begun_giving t.member.plan (pool_of_image image))) ∙ at)
    none_offered side h q (in_return near v is on same) = none-some v (sym (begun_back t.member.plan (pool_of_image image)) ∙ is)

    -- whether another life is present stays
    pub same_presence : (m : ℕ) (z : Seat) → seat_at w m ≡ Some z → m ≢ life → is_present x m ≡ is_present w m
    same_presence m z here apart = restart_still_present s w node image x t lives m z here apart

    offered : (n : ℕ) (seat : Seat) → seat_at x n ≡ Some seat → is_present x n ≡ true → (side : Side) (h : Handle) (q : Prefix) → OffersIn seat.agent side h q
        → (z : SessionState) → IsOwnSession seat.core.sessions h side z → IsOfferedOn x n side z.stream q
    offered n seat found present side h q o z own = by_life
        (λ m y. is_present x m ≡ true → OffersIn y.agent side h q → IsOwnSession y.core.sessions h side z → IsOfferedOn x m side z.stream q)
        (λ is there mine. absurd (true≢false (sym is ∙ restart_ends s w node image x t lives))) (λ is there mine. absurd (none_offered side h q there))
        (λ m y apart here is there mine. listed_on m side z.stream q apart (k.known.offered m y here (sym (same_presence m y here apart) ∙ is) side h q there z mine)) n seat found present o own

    gone : (n : ℕ) (seat : Seat) → seat_at x n ≡ Some seat → (z : SessionState) (q : Prefix) → Contains seat.core.sessions.gone z → z.owner ≡ 1 → IsOpenOffer z.view q
        → (IsOfferedOn x n z.view.role z.stream q × Contains seat.agent.pool.doubtful q) ⊎ WasSettledOn x n z.view.role z.stream q
    gone n seat found z q was own is_open = by_life
        (λ m y. Contains y.core.sessions.gone z → (IsOfferedOn x m z.view.role z.stream q × Contains y.agent.pool.doubtful q) ⊎ WasSettledOn x m z.view.role z.stream q)
        (λ there. mine (k.known.gone (present_life w node) t.seat t.here z q there own is_open)) (λ there. absurd (none_gone_there z there))
        (λ m y apart here there. theirs m y apart (k.known.gone m y here z q there own is_open)) n seat found was where
          mine : (IsOfferedOn w life z.view.role z.stream q × Contains t.seat.agent.pool.doubtful q) ⊎ WasSettledOn w life z.view.role z.stream q
              → (IsOfferedOn x life z.view.role z.stream q × Contains (retired t.seat.agent).pool.doubtful q) ⊎ WasSettledOn x life z.view.role z.stream q
          mine (inl o) = inl (left_on z.view.role z.stream q (inr (in_doubt q o.1)) o.0, in_doubt q o.1)
          mine (inr o) = inr (settled_on (present_life w node) z.view.role z.stream q o)

          theirs : (m : ℕ) (y : Seat) → m ≢ life → (IsOfferedOn w m z.view.role z.stream q × Contains y.agent.pool.doubtful q) ⊎ WasSettledOn w m z.view.role z.stream q
              → (IsOfferedOn x m z.view.role z.stream q × Contains y.agent.pool.doubtful q) ⊎ WasSettledOn x m z.view.role z.stream q
          theirs m y apart (inl o) = inl (listed_on m z.view.role z.stream q apart o.0, o.1)
          theirs m y apart (inr o) = inr (settled_on m z.view.role z.stream q o)

    -- ---- what is open in the life that ends

    module _ (place : ℕ) (z : SessionState) (q : Prefix) (at : IsAt t.seat.core.sessions place z) (own : z.owner ≡ 1) (is_open : IsOpenOffer z.view q) where
      -- it was offered
      not_to_offer : (side : Side) (h : Handle) → OffersIn t.seat.agent side h q → IsOwnSession t.seat.core.sessions h side z → ¬ IsToBeOffered t.seat.agent q
      not_to_offer side h offers mine (by_return v is none same) = unsent_unoffered t.seat.agent side h q was_kept (unsent_is t.seat.agent v q is none same) offers
      not_to_offer side h offers mine (by_act i j is) = from (decided_there l s w r (present_life w node) t.seat t.here i j q is) where
        from : (e : EntryStands t.seat.core.sessions t.seat.agent i (decided_entry j q)) × IsDeciding e.session.view → ⊥
        from e =
            let handle : h ≡ j = one_offer t.seat.agent side Far h j q was_kept offers (decided_offers t.seat.agent i j q was_kept is) in
            let same : e.0.session ≡ z = one_session t.seat.core.sessions j e.0.session z e.0.own.at (subst (λ u. IsOwnSession t.seat.core.sessions u side z) handle mine).at in
            deciding_closed z.view q (live_legal l s w r (present_life w node) t.seat t.here z q own is_open place at) (subst (λ (u : SessionState). IsDeciding u.view) same e.1) is_open

      left_open : IsOfferedOn x life z.view.role z.stream q ⊎ WasSettledOn x life z.view.role z.stream q
      left_open = by_gave (live_gave l s w r (present_life w node) t.seat t.here z q own is_open place at) where
        by_gave : Gave t.seat z q → IsOfferedOn x life z.view.role z.stream q ⊎ WasSettledOn x life z.view.role z.stream q
        by_gave (by_offer side h offers mine) =
            inl
            (subst (λ i. IsOfferedOn x life i z.stream q) (sym mine.role)
            (left_on side z.stream q (inl ((retires.reserved was_kept q).1 (offers_reserved t.seat.agent side h q was_kept offers, not_to_offer side h offers mine)))
            (k.known.offered (present_life w node) t.seat t.here life_present side h q offers z mine)))
        by_gave (by_gone gone mine) = by_case (k.known.gone (present_life w node) t.seat t.here z q gone mine is_open) where
          by_case : (IsOfferedOn w life z.view.role z.stream q × Contains t.seat.agent.pool.doubtful q) ⊎ WasSettledOn w life z.view.role z.stream q
              → IsOfferedOn x life z.view.role z.stream q ⊎ WasSettledOn x life z.view.role z.stream q
          by_case (inl o) = inl (left_on z.view.role z.stream q (inr (in_doubt q o.1)) o.0)
          by_case (inr o) = inr (settled_on (present_life w node) z.view.role z.stream q o)

    ended_open : (n : ℕ) (seat : Seat) → seat_at x n ≡ Some seat → is_present x n ≡ false → (place : ℕ) (z : SessionState) (q : Prefix) → IsAt seat.core.sessions place z → z.owner ≡ 1 → IsOpenOffer z.view q
        → IsOfferedOn x n z.view.role z.stream q ⊎ WasSettledOn x n z.view.role z.stream q
    ended_open n seat found past place z q at own is_open = by_life
        (λ m y. is_present x m ≡ false → IsAt y.core.sessions place z → IsOfferedOn x m z.view.role z.stream q ⊎ WasSettledOn x m z.view.role z.stream q)
        (λ is there. left_open place z q there own is_open) (λ is there. absurd (none_live_there place z there))
        (λ m y apart here is there. theirs m apart (k.known.ended m y here (sym (same_presence m y here apart) ∙ is) place z q there own is_open)) n seat found past at where
          theirs : (m : ℕ) → m ≢ life → IsOfferedOn w m z.view.role z.stream q ⊎ WasSettledOn w m z.view.role z.stream q
              → IsOfferedOn x m z.view.role z.stream q ⊎ WasSettledOn x m z.view.role z.stream q
          theirs m apart (inl o) = inl (listed_on m z.view.role z.stream q apart o)
          theirs m apart (inr o) = inr (settled_on m z.view.role z.stream q o)

    offers_known : OffersAreKnown x
    offers_known = record {
      once = once;
      placed = λ o h. placed_still l s w r x (inr restart_happens) all_stay o (k.known.placed o (t.were_offered o h).0);
      kept = kept;
      carried = carried;
      unsent = unsent;
      offered = offered;
      gone = gone;
      ended = ended_open;
      settled = λ o h. still_unaccepted l s w r x all_stay o (k.known.settled o (subst (λ (os : List Offered). Contains os o) t.settled h)) restart_happens;
    }

    pub restart_keeps : PrefixesStand x
    restart_keeps = record { known = offers_known; held = held; authorities = record { held = auth_held; others = auth_others } }
