-- No address is held twice after an agent's own step, and what may be accepted then is apart.
use Rattle.std.proofs.Common.{◌≡◌, ◌≢◌, refl, sym, ap, ◌∙◌, subst, ℕ, false, inl, inr, ◌⊎◌, Contains, Some, None}
use Rattle.std.proofs.lemmas.Bool.{true≢false, cases_eq}
use Rattle.std.proofs.lemmas.Option.{none-some, same_Some}
use Rattle.grasp_agent.specs.declared.act.Act.TheVariants as act
use Rattle.grasp_pool.proofs.Maximal.{cases_prefix}
use Rattle.grasp_pool.specs.Holdings.{IsFree, IsListed}
use Rattle.grasp_pool.specs.Pools.{IsPool}
use Rattle.grasp_pool.specs.Spans.{Apart}
use Rattle.grasp_types.specs.Prefix.{AddressBlock as Prefix, span_of}
use Rattle.grasp_types.specs.declared.session.Handle.{Handle}
use Rattle.grasp_laws_network.specs.Authorities.{Holds, Reserves, Keeps, MayAccept, IsAuthority}
use Rattle.grasp_model_network.specs.Offers.{JustOffered, is_offer_of}
use Rattle.grasp_model_network.specs.Runs.{IsReached}
use Rattle.grasp_model_network.specs.Sending.{seat_with}
use Rattle.grasp_model_network.specs.Setting.{Setting}
use Rattle.grasp_model_network.specs.World.{Seat, Offered, WorldState, seat_at, member_of}
use Rattle.grasp_laws_agents.specs.OfferLaws.{FreedBy, MayGoBack, IsAcceptance}
use Rattle.grasp_laws_prefixes.proofs.AgentOffers.{IsJust, newly, IsListedNow, was_listed, is_new, listed_now, is_kept_now, NewFrom, from_old, from_unsent, from_free, new_from, once_now, offers_known}
use Rattle.grasp_laws_prefixes.proofs.AgentSteps.{AgentStep, IsOfferOf, given_offer, unsent_authority, theirs, mine, accepted_offer, spent}
use Rattle.grasp_laws_prefixes.proofs.Listing.{offer_of, Begins, decides, hands, begins, is_just}
use Rattle.grasp_laws_prefixes.proofs.OneNode.{each_node}
use Rattle.grasp_laws_prefixes.proofs.OwnSteps.{IsCall}
use Rattle.grasp_laws_prefixes.proofs.QuietKeeps.{may_before}
use Rattle.grasp_laws_prefixes.proofs.Standing.{offer_unsent, PrefixesStand}
use Rattle.grasp_laws_prefixes.specs.Grounds.{Grounds}
use Rattle.grasp_laws_prefixes.specs.Apart.{HeldApart, offer_on}

module _ (l : Grounds) (s : Setting) (w y : WorldState) (r : IsReached s w) (q : IsReached s y) (a : AgentStep w y) (k : PrefixesStand w) where
  -- ---- the node of the step

  own_seat : (seat : Seat) → seat_at y a.visit.node ≡ Some seat → seat ≡ seat_with a.core a.agent
  own_seat seat here = same_Some seat (seat_with a.core a.agent) (sym here ∙ a.there)

  free_now : (n address : ℕ) → n ≡ a.visit.node → Holds y n address → IsFree a.agent.pool address
  free_now n address e h = subst (λ (z : Seat). IsFree z.agent.pool address) (own_seat h.seat (ap (λ m. seat_at y m) (sym e) ∙ h.here)) h.free

  listed_at : (n : ℕ) (p : Prefix) → n ≡ a.visit.node → Keeps y n p → IsListed a.agent.pool p
  listed_at n p e h = subst (λ (z : Seat). IsListed z.agent.pool p) (own_seat h.seat (ap (λ m. seat_at y m) (sym e) ∙ h.here)) h.listed

  pool_now : IsPool a.agent.pool
  pool_now = (is_kept_now l s w y r q a k).pool

  held_elsewhere : (n address : ℕ) → n ≢ a.visit.node → Holds y n address → Holds w n address
  held_elsewhere n address apart h = record { seat = h.seat; here = sym (a.others n apart) ∙ h.here; free = h.free }

  own_holds : (address : ℕ) → IsFree a.visit.seat.agent.pool address → Holds w a.visit.node address
  own_holds address free = record { seat = a.visit.seat; here = a.here; free = free }

  -- ---- what was freed

  -- an offer that might be accepted before, with this address: where the address is free, none of its node and prefix may be any more
  pub record IsFreed (address : ℕ) : Type 0 where
    pub offer : Offered
    pub authority : IsAuthority w offer
    pub span : span_of offer.prefix address
    pub spent_now : IsFree a.agent.pool address → (o : Offered) → offer.node ≡ o.node → offer.prefix ≡ o.prefix → ¬ IsAuthority y o

  own_freed : (o : Offered) (address : ℕ) → o.node ≡ a.visit.node → span_of o.prefix address → IsAuthority w o → IsFreed address
  own_freed o address own span auth = record {
    offer = o;
    authority = auth;
    span = span;
    spent_now = λ free z e f h. pool_now.held o.prefix address (subst (λ u. IsListed a.agent.pool u) (sym f) (listed_at z.node z.prefix (sym e ∙ own) h.kept)) span free;
  }

  accepted_freed : (p : Prefix) (address : ℕ) → span_of p address → IsAcceptance a.visit.seat.core a.core a.visit.seat.agent p → IsFreed address
  accepted_freed p address span g = record { offer = _; authority = was; span = span; spent_now = λ free o e f h. spent_so o e f h (listed_now l s w y r q a k o h.listed) } where
    was : IsAuthority w (offer_on (theirs l s w r k a.visit.node a.visit.seat a.here a.present a.core p g).at.node p (mine l s w r k a.visit.node a.visit.seat a.here a.present a.core p g).place)
    was = accepted_offer l s w r k a.visit.node a.visit.seat a.here a.present a.core p g

    spent_so : (o : Offered) → (theirs l s w r k a.visit.node a.visit.seat a.here a.present a.core p g).at.node ≡ o.node → p ≡ o.prefix → IsAuthority y o → IsListedNow l s w y r q a k o → ⊥
    spent_so o e f h (was_listed listed kept apart) =
        spent l s w r k a.visit.node a.visit.seat a.here a.present a.core p g y q a.streams a.agent a.there (subst (λ z. MayAccept y z z.talk) (sym (k.known.once _ o was.listed listed (ap (λ n. member_of w n) e) f)) h.live)
    spent_so o e f h (is_new j is same) = by_case (begins a.visit.seat.agent a.agent j is) where
      -- the same prefix isn't to be requested by the same node
      by_case : Begins a.visit.seat.agent a.agent j → ⊥
      by_case (decides none place now) = none-some (act.Accept g.handle p) (sym none ∙ g.act_is)
      by_case (hands unsent session) =
          none-some _
          (sym (ap (λ (u : Offered). u.talk)
          (k.known.once _ (offer_unsent a.visit.node j.prefix) was.listed (k.known.unsent a.visit.node a.visit.seat a.here j.prefix unsent) (ap (λ n. member_of w n) (e ∙ ap (λ (u : Offered). u.node) same))
          (f ∙ ap (λ (u : Offered). u.prefix) same))))

  freed : (address : ℕ) → FreedBy a.visit.seat.core a.core a.visit.seat.agent address → IsFreed address
  freed address (inl g) =
      let o = given_offer l s w r k a.visit.node a.visit.seat a.here a.present g.0 g.2 in
      own_freed (offer_on a.visit.node g.0 o.place) address refl g.1 o.authority
  freed address (inr (inl g)) = accepted_freed g.0 address g.1 g.2
  freed address (inr (inr g)) = own_freed (offer_unsent a.visit.node g.0) address refl g.1 (unsent_authority l s w r k a.visit.node a.visit.seat a.here g.0 g.2)

  -- an address that is held was held there, or was freed
  pub holds_before : (n address : ℕ) → Holds y n address → Holds w n address ⊎ ((n ≡ a.visit.node) × IsFreed address)
  holds_before n address h = by_node (cases_eq n a.visit.node) where
    by_free : n ≡ a.visit.node → IsFree a.visit.seat.agent.pool address ⊎ FreedBy a.visit.seat.core a.core a.visit.seat.agent address → Holds w n address ⊎ ((n ≡ a.visit.node) × IsFreed address)
    by_free e (inl free) = inl (subst (λ m. Holds w m address) (sym e) (own_holds address free))
    by_free e (inr g) = inr (e, freed address g)

    by_node : (n ≡ a.visit.node) ⊎ (n ≡ a.visit.node → ⊥) → Holds w n address ⊎ ((n ≡ a.visit.node) × IsFreed address)
    by_node (inl e) = by_free e (a.moves.freed address (free_now n address e h))
    by_node (inr apart) = inl (held_elsewhere n address apart h)

  held : HeldApart y
  held n m address apart h j = by_case (holds_before n address h) (holds_before m address j) where
    by_case : Holds w n address ⊎ ((n ≡ a.visit.node) × IsFreed address) → Holds w m address ⊎ ((m ≡ a.visit.node) × IsFreed address) → ⊥
    by_case (inl x) (inl z) = k.held n m address apart x z
    by_case (inl x) (inr z) = k.authorities.held z.1.offer z.1.authority n address z.1.span x
    by_case (inr x) (inl z) = k.authorities.held x.1.offer x.1.authority m address x.1.span z
    by_case (inr x) (inr z) = apart (x.0 ∙ sym z.0)

  -- ---- what may be accepted

  -- an offer of this node and prefix might be accepted before the step; or it is of the step's node, which held its addresses or had them in offers
  -- that might be accepted
  pub data WasAuthority (o : Offered) : Type 0 where
    was : (b : Offered) → b.node ≡ o.node → b.prefix ≡ o.prefix → IsAuthority w b → WasAuthority o
    is_taken : o.node ≡ a.visit.node → ((address : ℕ) → span_of o.prefix address → Holds w a.visit.node address ⊎ ((p : Prefix) × span_of p address × IsOfferOf w a.visit.node p)) → WasAuthority o

  -- what is reserved or in doubt now was so, but for what was just offered
  module _ (o : Offered) (apart : (j : JustOffered) → IsJust l s w y r q a k j → is_offer_of a.visit.node j.prefix o ≡ false) where
    own_reserved : o.node ≡ a.visit.node → Contains a.agent.pool.reserved o.prefix → Contains a.visit.seat.agent.pool.reserved o.prefix
    own_reserved e reserved = by_case (a.moves.reserved o.prefix reserved) where
      by_case : Contains a.visit.seat.agent.pool.reserved o.prefix ⊎ ((place : ℕ) × ((h : Handle) × (a.visit.seat.agent.act ≡ None) × (a.agent.act ≡ Some (act.Offer place h o.prefix)))) → Contains a.visit.seat.agent.pool.reserved o.prefix
      by_case (inl before) = before
      by_case (inr d) =
          absurd (true≢false (sym (offer_of a.visit.node o.prefix o e refl) ∙ apart (record { prefix = o.prefix; handle = d.1.0 }) (is_just a.visit.seat.agent a.agent d.0 d.1.0 o.prefix d.1.1 d.1.2)))

    listed_before : o.node ≡ a.visit.node → IsListed a.agent.pool o.prefix → IsListed a.visit.seat.agent.pool o.prefix
    listed_before e (inl reserved) = inl (own_reserved e reserved)
    listed_before e (inr doubtful) = by_case (a.moves.doubtful o.prefix doubtful) where
      by_case : Contains a.visit.seat.agent.pool.doubtful o.prefix ⊎ Contains a.visit.seat.agent.pool.reserved o.prefix → IsListed a.visit.seat.agent.pool o.prefix
      by_case (inl d) = inr d
      by_case (inr d) = inl d

    reserved_before : Reserves y o.node o.prefix → Reserves w o.node o.prefix
    reserved_before h = each_node w y a.visit.node _ a.there a.others (λ m z. o.node ≡ m → Contains z.agent.pool.reserved o.prefix → Reserves w m o.prefix)
        (λ e now. record { seat = a.visit.seat; here = a.here; reserved = own_reserved e now }) (λ m z differ here e now. record { seat = z; here = here; reserved = now }) o.node h.seat h.here refl h.reserved

    kept_before : Keeps y o.node o.prefix → Keeps w o.node o.prefix
    kept_before h = each_node w y a.visit.node _ a.there a.others (λ m z. o.node ≡ m → IsListed z.agent.pool o.prefix → Keeps w m o.prefix)
        (λ e now. record { seat = a.visit.seat; here = a.here; listed = listed_before e now }) (λ m z differ here e now. record { seat = z; here = here; listed = now }) o.node h.seat h.here refl h.listed

  -- what is listed might be accepted, if it may be now
  old_authority : (o : Offered) → Contains w.offers o → Keeps w o.node o.prefix → (Reserves y o.node o.prefix → Reserves w o.node o.prefix) → IsAuthority y o → WasAuthority o
  old_authority o listed kept reserved auth =
      was o refl refl (record { listed = listed; kept = kept; live = may_before l s w r y (inl q) a.streams o (k.known.placed o listed) reserved auth.live })

  new_authority : (j : JustOffered) → IsJust l s w y r q a k j → IsAuthority y (newly l s w y r q a k j) → WasAuthority (newly l s w y r q a k j)
  new_authority j is auth = by_case (new_from l s w y r q a k j is) where
    by_case : NewFrom l s w y r q a k j → WasAuthority (newly l s w y r q a k j)
    by_case (from_old listed reserved) =
        old_authority (newly l s w y r q a k j) listed (record { seat = a.visit.seat; here = a.here; listed = inl reserved }) (λ h. record { seat = a.visit.seat; here = a.here; reserved = reserved }) auth
    by_case (from_unsent unsent) = was (offer_unsent a.visit.node j.prefix) refl refl (unsent_authority l s w r k a.visit.node a.visit.seat a.here j.prefix unsent)
    by_case (from_free free) = is_taken refl (λ address span. by_free address (free address span)) where
      by_free : (address : ℕ) → IsFree a.visit.seat.agent.pool address ⊎ ((z : Prefix) × span_of z address × MayGoBack a.visit.seat.core a.visit.seat.agent z)
          → Holds w a.visit.node address ⊎ ((z : Prefix) × span_of z address × IsOfferOf w a.visit.node z)
      by_free address (inl f) = inl (own_holds address f)
      by_free address (inr g) = inr (g.0, g.1, given_offer l s w r k a.visit.node a.visit.seat a.here a.present g.0 g.2)

  pub was_authority : (o : Offered) → IsAuthority y o → WasAuthority o
  was_authority o auth = by_case (listed_now l s w y r q a k o auth.listed) where
    by_case : IsListedNow l s w y r q a k o → WasAuthority o
    by_case (was_listed listed kept apart) = old_authority o listed (kept_before o apart auth.kept) (reserved_before o apart) auth
    by_case (is_new j is e) = subst (λ z. WasAuthority z) (sym e) (new_authority j is (subst (λ z. IsAuthority y z) e auth))

  auth_held : (o : Offered) → IsAuthority y o → (n address : ℕ) → span_of o.prefix address → ¬ Holds y n address
  auth_held o auth n address span h = by_case (was_authority o auth) where
    -- the node itself holds nothing of it
    own : o.node ≡ n → ⊥
    own e =
        let same : auth.kept.seat ≡ h.seat = same_Some auth.kept.seat h.seat (sym auth.kept.here ∙ (ap (λ m. seat_at y m) e ∙ h.here)) in
        (l.kept s y q n h.seat h.here).pool.held o.prefix address (subst (λ (z : Seat). IsListed z.agent.pool o.prefix) same auth.kept.listed) span h.free

    by_old : (b : Offered) → b.node ≡ o.node → b.prefix ≡ o.prefix → IsAuthority w b → span_of b.prefix address → Holds w n address ⊎ ((n ≡ a.visit.node) × IsFreed address) → ⊥
    by_old b e f before i (inl x) = k.authorities.held b before n address i x
    by_old b e f before i (inr x) =
        k.authorities.others b x.1.offer before x.1.authority
        (λ same. x.1.spent_now (free_now n address x.0 h) o (ap (λ (u : Offered). u.node) (sym same) ∙ e) (ap (λ (u : Offered). u.prefix) (sym same) ∙ f) auth) address i x.1.span

    by_new : o.node ≡ a.visit.node → Holds w n address ⊎ ((n ≡ a.visit.node) × IsFreed address) → Holds w a.visit.node address ⊎ ((p : Prefix) × span_of p address × IsOfferOf w a.visit.node p) → ⊥
    by_new e (inr x) z = own (e ∙ sym x.0)
    by_new e (inl x) (inr z) = k.authorities.held (offer_on a.visit.node z.0 z.2.place) z.2.authority n address z.1 x
    by_new e (inl x) (inl z) = by_node (cases_eq n a.visit.node) where
      by_node : (n ≡ a.visit.node) ⊎ (n ≡ a.visit.node → ⊥) → ⊥
      by_node (inl same) = own (e ∙ sym same)
      by_node (inr differ) = k.held n a.visit.node address differ x z

    by_case : WasAuthority o → ⊥
    by_case (was b e f before) = by_old b e f before (subst (λ p. span_of p address) (sym f) span) (holds_before n address h)
    by_case (is_taken e taken) = by_new e (holds_before n address h) (taken address span)

  auth_others : (o p : Offered) → IsAuthority y o → IsAuthority y p → ¬ (o ≡ p) → Apart o.prefix p.prefix
  auth_others o p first second differ = by_node (cases_eq o.node p.node) where
    -- at one node
    own : o.node ≡ p.node → (o.prefix ≡ p.prefix) ⊎ (¬ (o.prefix ≡ p.prefix)) → Apart o.prefix p.prefix
    own e (inl same) = absurd (differ (once_now l s w y r q a k o p (listed_now l s w y r q a k o first.listed) (listed_now l s w y r q a k p second.listed) (ap (λ n. member_of w n) e) same))
    own e (inr other) =
        let seat_is : first.kept.seat ≡ second.kept.seat = same_Some first.kept.seat second.kept.seat (sym first.kept.here ∙ (ap (λ m. seat_at y m) e ∙ second.kept.here)) in
        (l.kept s y q p.node second.kept.seat second.kept.here).pool.apart o.prefix p.prefix other (subst (λ (z : Seat). IsListed z.agent.pool o.prefix) seat_is first.kept.listed) second.kept.listed

    -- one of them was taken just now, and the other is another node's
    taken_apart : (address : ℕ) (z : Offered) → IsAuthority w z → z.node ≢ a.visit.node → span_of z.prefix address
        → Holds w a.visit.node address ⊎ ((x : Prefix) × span_of x address × IsOfferOf w a.visit.node x) → ⊥
    taken_apart address z auth apart span (inl holds) = k.authorities.held z auth a.visit.node address span holds
    taken_apart address z auth apart span (inr x) =
        k.authorities.others z (offer_on a.visit.node x.0 x.2.place) auth x.2.authority (λ e. apart (ap (λ (u : Offered). u.node) e)) address span x.1

    by_case : o.node ≢ p.node → WasAuthority o → WasAuthority p → Apart o.prefix p.prefix
    by_case apart (was b e f bo) (was c g h cp) =
        subst (λ z. Apart z p.prefix) f (subst (λ z. Apart b.prefix z) h (k.authorities.others b c bo cp (λ same. apart (sym e ∙ (ap (λ (u : Offered). u.node) same ∙ g)))))
    by_case apart (was b e f bo) (is_taken g taken) = λ address i j. taken_apart address b bo (λ h. apart (sym e ∙ (h ∙ sym g))) (subst (λ z. span_of z address) (sym f) i) (taken address j)
    by_case apart (is_taken g taken) (was c e f cp) = λ address i j. taken_apart address c cp (λ h. apart (g ∙ (sym h ∙ e))) (subst (λ z. span_of z address) (sym f) j) (taken address i)
    by_case apart (is_taken e taken) (is_taken f also) = absurd (apart (e ∙ sym f))

    by_node : (o.node ≡ p.node) ⊎ (o.node ≡ p.node → ⊥) → Apart o.prefix p.prefix
    by_node (inl e) = own e (cases_prefix o.prefix p.prefix)
    by_node (inr apart) = by_case apart (was_authority o first) (was_authority p second)

  pub agent_keeps : IsCall w y a → PrefixesStand y
  agent_keeps c = record {
    known = offers_known l s w y r q a k c;
    held = held;
    authorities = record { held = auth_held; others = auth_others };
  }
