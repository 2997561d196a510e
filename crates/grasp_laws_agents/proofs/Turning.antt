-- The turn of the agent, in the session of its want and in one in which it gives.
use Rattle.std.proofs.Common.{◌≡◌, ◌≢◌, ◌⊎◌, refl, sym, ap, ◌∙◌, subst, inl, inr, ℕ, true, false, Option, None, Some, Contains, slice_get, slice_set}
use Rattle.std.proofs.lemmas.Bool.{true≢false, eq-eqb, ne_eqb}
use Rattle.grasp_laws_agent.proofs.LawRequester.{requesters_decide}
use Rattle.grasp_laws_agent.specs.Moves.{considers, Effect, TakesBack}
use Rattle.grasp_agent.specs.Replies.{offering, want_act}
use Rattle.grasp_agent.specs.States.{AgentState, want_session}
use Rattle.grasp_agent.specs.Values.{returned_in}
use Rattle.grasp_agent.specs.declared.act.Act.{Act}
use Rattle.grasp_agent.specs.declared.act.Act.TheVariants as act
use Rattle.grasp_agent.specs.declared.giving.Giving.{Giving}
use Rattle.grasp_cbor.specs.DataItem.{DataItem}
use Rattle.grasp_model_node.specs.Node.{NodeState}
use Rattle.grasp_pool.specs.Holdings.{Holding, IsFree}
use Rattle.grasp_laws_session.proofs.Turns.{none_accepted}
use Rattle.grasp_laws_session.proofs.Views.{going_not_ended, own_turn_of}
use Rattle.grasp_session.specs.Made.{IsBuilt}
use Rattle.grasp_session.specs.Messages.{Side, Near, Far}
use Rattle.grasp_session.specs.Sessions.{SessionState, session_at}
use Rattle.grasp_session.specs.Transcript.{Transcript, is_going, is_mine, known, peer_offer, request_of}
use Rattle.grasp_types.specs.Prefix.{AddressBlock as Prefix, span_of}
use Rattle.grasp_types.specs.declared.session.Handle.{Handle}
use Rattle.grasp_laws_agents.proofs.Entries.{some_is}
use Rattle.grasp_laws_agents.proofs.Deciding.{Asks, asks, TurnsTo, offers, accepts, declines}
use Rattle.grasp_laws_agents.proofs.Replacing.{entry_was, still_apart, still_live}
use Rattle.grasp_laws_agents.proofs.Known.{built_answers}
use Rattle.grasp_laws_agents.proofs.Standing.{same_apart, same_back, same_entry, same_has, same_own, same_quiet, same_streams, same_unsent, sides_apart, Moved, idle_entry, stands}
use Rattle.grasp_laws_agents.specs.Giving.{IsOpenOffer, IsDeciding, IsUnaccepted, is_offering, OfferStands, IsOwnSession, EntryStands, AcceptStands, WantStands, OffersIn, in_entry, in_return, Gives}
use Rattle.grasp_laws_agents.specs.OfferLaws.{MayGoBack, FreedBy, WasOffered, was_there, just_decided, was_gone}

-- ---- a session whose turn it is

pub is_deciding : (v : Transcript) → is_going v ≡ true → is_mine v ≡ true → IsDeciding v
is_deciding v g m = record { mine = own_turn_of v m; no_end = going_not_ended v g }

-- where the turn in a session is this end's, it has no open offer, and nobody has accepted
pub none_open : (v : Transcript) (p : Prefix) → IsBuilt v → IsDeciding v → ¬ IsOpenOffer v p
none_open v p b d o = true≢false (sym (built_answers v b d.mine o.offered.made) ∙ o.unanswered)

pub deciding_unaccepted : (v : Transcript) → IsDeciding v → IsUnaccepted v
deciding_unaccepted v d = record { whole = inl d.mine; no_acceptance = none_accepted (known v) d.no_end }

-- ---- in the session of its want

module _ (n : NodeState) (a b : AgentState) (h : Handle) (x : SessionState) (k : Gives n a) (idle : a.act ≡ None) (wants : want_session a.want ≡ Some h)
    (at : session_at n.sessions h ≡ Some x) (turn : IsDeciding x.view) (e : Effect a (considers h (peer_offer x.view)) b) where
  asked : Asks h (peer_offer x.view).value (want_act h e.4.decision)
  asked =
      let c = e.4 in
      let same = (requesters_decide a.pool c.want.length c.want.longest (peer_offer x.view).value (peer_offer x.view).loops c.decision).1 c.decides in
      subst (λ d. Asks h (peer_offer x.view).value (want_act h d)) same (asks a.pool c.want.length c.want.longest (peer_offer x.view).value (peer_offer x.view).loops h)

  considered_want : (l : Handle) → want_session b.want ≡ Some l → WantStands n.sessions b l
  considered_want l f =
      let s = k.want h wants in
      let same : h ≡ l = some_is h l (sym wants ∙ (ap want_session (sym e.2.0) ∙ f)) in
      let there : x ≡ s.session = sym (same_own n.sessions h Near s.session x s.own at) in
      subst (WantStands n.sessions b) same
      (record {
        session = s.session;
        own = s.own;
        accept = subst (λ (o : Option Act). AcceptStands o h Near s.session.view) (sym e.4.act)
            (subst (λ (y : SessionState). AcceptStands (Some (want_act h e.4.decision)) h Near y.view) there (asked.accepts x.view turn refl));
        asks = s.asks;
      })

  considered_entry : (place : ℕ) (g : Giving) → slice_get b.giving place ≡ Some g → EntryStands n.sessions b place g
  considered_entry place g f =
      let s = idle_entry n a place g k idle (same_entry a b e.1 place g f) in
      let w = k.want h wants in
      let apart : ¬ (h ≡ g.handle) = λ same. sides_apart n.sessions h g.handle w.session s.session w.own s.own (ap (λ (u : Handle). u.place) (sym same)) in
      stands n.sessions b place g (ap (λ (o : Option Act). is_offering o place) e.4.act ∙ asked.offers place) s
      (subst (λ (o : Option Act). AcceptStands o g.handle Far s.session.view) (sym e.4.act) (asked.away g.handle Far s.session.view apart))

  pub considered : Moved n n a b
  considered = record {
    gives = record {
      want = considered_want;
      entries = considered_entry;
      back = same_back n a b e.3 k;
      apart = same_apart n a b e.1 k;
      kinds = k.kinds;
      live = λ l side y p own pending. same_has a b e.1 e.3 l side (k.live l side y p own pending);
    };
    moves = same_quiet n n a b (same_streams n.sessions n.sessions refl) e.0 e.1 e.3 (λ y p pending has. has);
  }

-- ---- in a session in which it gives

-- what an offer gives back
back_free : (o : Option Prefix) (old new : Holding) (address : ℕ) → TakesBack o old new → IsFree new address → IsFree old address ⊎ ((q : Prefix) × (o ≡ Some q) × span_of q address)
back_free None old new address t f = inl (subst (λ (h : Holding). IsFree h address) t f)
back_free (Some q) old new address t f = by_free ((t.free address).0 f) where
  by_free : IsFree old address ⊎ span_of q address → IsFree old address ⊎ ((r : Prefix) × (Some q ≡ Some r) × span_of r address)
  by_free (inl g) = inl g
  by_free (inr g) = inr (q, refl, g)

back_reserved : (o : Option Prefix) (old new : Holding) (p : Prefix) → TakesBack o old new → Contains new.reserved p → Contains old.reserved p
back_reserved None old new p t has = subst (λ (h : Holding). Contains h.reserved p) t has
back_reserved (Some q) old new p t has = ((t.reserved p).0 has).0

back_doubtful : (o : Option Prefix) (old new : Holding) → TakesBack o old new → new.doubtful ≡ old.doubtful
back_doubtful None old new t = ap (λ (h : Holding). h.doubtful) t
back_doubtful (Some q) old new t = t.doubtful

-- what a turn makes of what is free, reserved and in doubt
module _ (place : ℕ) (g f : Giving) (value : Option DataItem) (old new : Holding) (c : Act) where
  turn_free : (address : ℕ) → TurnsTo place g value old c f new → IsFree new address → IsFree old address
  turn_free address (offers p is entry r plain) free = ((r.free address).0 free).0
  turn_free address (accepts p is entry same back) free = subst (λ (h : Holding). IsFree h address) same free
  turn_free address (declines reason is entry same) free = subst (λ (h : Holding). IsFree h address) same free

  turn_doubtful : TurnsTo place g value old c f new → new.doubtful ≡ old.doubtful
  turn_doubtful (offers p is entry r plain) = r.doubtful
  turn_doubtful (accepts p is entry same back) = ap (λ (h : Holding). h.doubtful) same
  turn_doubtful (declines reason is entry same) = ap (λ (h : Holding). h.doubtful) same

  turn_reserved : (q : Prefix) → TurnsTo place g value old c f new → Contains new.reserved q → Contains old.reserved q ⊎ (c ≡ act.Offer place g.handle q)
  turn_reserved q (offers p is entry r plain) has = by_case ((r.reserved q).0 has) where
    by_case : Contains old.reserved q ⊎ (q ≡ p) → Contains old.reserved q ⊎ (c ≡ act.Offer place g.handle q)
    by_case (inl i) = inl i
    by_case (inr i) = inr (is ∙ ap (act.Offer place g.handle) (sym i))
  turn_reserved q (accepts p is entry same back) has = inl (subst (λ (u : Holding). Contains u.reserved q) same has)
  turn_reserved q (declines reason is entry same) has = inl (subst (λ (u : Holding). Contains u.reserved q) same has)

  -- in another session nothing is accepted
  turn_accepts : (l : Handle) (side : Side) (v : Transcript) → ¬ (g.handle ≡ l) → TurnsTo place g value old c f new → AcceptStands (Some c) l side v
  turn_accepts l side v apart (offers p is entry r plain) = subst (λ d. AcceptStands (Some d) l side v) (sym is) tt
  turn_accepts l side v apart (accepts p is entry same back) = subst (λ d. AcceptStands (Some d) l side v) (sym is) (λ here. absurd (apart here))
  turn_accepts l side v apart (declines reason is entry same) = subst (λ d. AcceptStands (Some d) l side v) (sym is) tt

  turn_elsewhere : (other : ℕ) → TurnsTo place g value old c f new → other ≢ place → is_offering (Some c) other ≡ false
  turn_elsewhere other (offers p is entry r plain) n = ap (λ d. is_offering (Some d) other) is ∙ ne_eqb place other (λ e. n (sym e))
  turn_elsewhere other (accepts p is entry same back) n = ap (λ d. is_offering (Some d) other) is
  turn_elsewhere other (declines reason is entry same) n = ap (λ d. is_offering (Some d) other) is

  turn_handle : TurnsTo place g value old c f new → f.handle ≡ g.handle
  turn_handle (offers p is entry r plain) = ap (λ (u : Giving). u.handle) entry
  turn_handle (accepts p is entry same back) = ap (λ (u : Giving). u.handle) entry
  turn_handle (declines reason is entry same) = ap (λ (u : Giving). u.handle) entry

module _ (n : NodeState) (a b : AgentState) (place : ℕ) (g : Giving) (x : SessionState) (k : Gives n a) (built : IsBuilt x.view) (idle : a.act ≡ None) (here : slice_get a.giving place ≡ Some g)
    (own : IsOwnSession n.sessions g.handle Far x) (turn : IsDeciding x.view) (between : Holding) (c : Act) (new : Giving) (back : TakesBack g.offer a.pool between)
    (to : TurnsTo place g (peer_offer x.view).value between c new b.pool) (plain_request : returned_in (peer_offer x.view).value ≡ None → returned_in (request_of x.view).value ≡ None) (set : b.giving ≡ slice_set a.giving place new)
    (is : b.act ≡ Some c) (want : b.want ≡ a.want) (returns : b.back ≡ a.back) where
  abbrev value : Option DataItem
  value = (peer_offer x.view).value

  handle : new.handle ≡ g.handle
  handle = turn_handle place g new value between b.pool c to

  acts : (d : Act) → c ≡ d → Some d ≡ b.act
  acts d e = sym (is ∙ ap (λ u. Some u) e)

  -- an entry that offers nothing, with the act that was decided
  rests_here : (d : Act) → c ≡ d → is_offering (Some d) place ≡ false → AcceptStands (Some d) g.handle Far x.view → EntryStands n.sessions b place (offering g None)
  rests_here d e none accept = record {
    session = x;
    own = own;
    offer = subst (λ u. OfferStands u None x.view) (sym (ap (λ (u : Option Act). is_offering u place) (sym (acts d e)) ∙ none)) (λ p. none_open x.view p built turn);
    accept = subst (λ (u : Option Act). AcceptStands u g.handle Far x.view) (acts d e) accept;
  }

  decided_here : TurnsTo place g value between c new b.pool → EntryStands n.sessions b place new
  decided_here (offers p act_is entry r plain) =
      let d : Act = act.Offer place g.handle p in
      subst (EntryStands n.sessions b place) (sym entry)
      (record {
        session = x;
        own = own;
        offer = subst (λ u. OfferStands u (Some p) x.view) (sym (ap (λ (u : Option Act). is_offering u place) (sym (acts d act_is)) ∙ eq-eqb place place refl)) (turn, plain_request plain);
        accept = subst (λ (u : Option Act). AcceptStands u g.handle Far x.view) (acts d act_is) tt;
      })
  decided_here (accepts p act_is entry same back) = subst (EntryStands n.sessions b place) (sym entry) (rests_here (act.Accept g.handle p) act_is refl (λ here. (turn, back)))
  decided_here (declines reason act_is entry same) = subst (EntryStands n.sessions b place) (sym entry) (rests_here (act.Decline g.handle reason) act_is refl tt)

  turned_entry : (i : ℕ) (f : Giving) → slice_get b.giving i ≡ Some f → EntryStands n.sessions b i f
  turned_entry i f at = by_case (entry_was a b place g new here handle set i f at) where
    by_case : ((i ≡ place) × (new ≡ f)) ⊎ ((i ≢ place) × (slice_get a.giving i ≡ Some f)) → EntryStands n.sessions b i f
    by_case (inl e) = subst (EntryStands n.sessions b i) e.1 (subst (λ j. EntryStands n.sessions b j new) (sym e.0) (decided_here to))
    by_case (inr e) =
        let s = idle_entry n a i f k idle e.1 in
        let away : ¬ (g.handle ≡ f.handle) = λ same. e.0 (k.apart i place f g e.1 here (sym same)) in
        stands n.sessions b i f (ap (λ (u : Option Act). is_offering u i) is ∙ turn_elsewhere place g new value between b.pool c i to e.0) s
        (subst (λ (u : Option Act). AcceptStands u f.handle Far s.session.view) (sym is) (turn_accepts place g new value between b.pool c f.handle Far s.session.view away to))

  doubtful_same : b.pool.doubtful ≡ a.pool.doubtful
  doubtful_same = turn_doubtful place g new value between b.pool c to ∙ back_doubtful g.offer a.pool between back

  turned_want : (h : Handle) → want_session b.want ≡ Some h → WantStands n.sessions b h
  turned_want h f =
      let s = k.want h (ap want_session (sym want) ∙ f) in
      let away : ¬ (g.handle ≡ h) = λ same. sides_apart n.sessions h g.handle s.session x s.own own (ap (λ (u : Handle). u.place) same) in
      record {
        session = s.session;
        own = s.own;
        accept = subst (λ (u : Option Act). AcceptStands u h Near s.session.view) (sym is) (turn_accepts place g new value between b.pool c h Near s.session.view away to);
        asks = s.asks;
      }

  -- the offer that was made before is free again
  given_back : (q : Prefix) → g.offer ≡ Some q → MayGoBack n a q
  given_back q f = record { handle = g.handle; side = Far; session = x; offers = in_entry refl place g here refl f; own = own; unaccepted = deciding_unaccepted x.view turn }

  between_free : (address : ℕ) → IsFree between address → IsFree a.pool address ⊎ ((q : Prefix) × span_of q address × MayGoBack n a q)
  between_free address f = by_case (back_free g.offer a.pool between address back f) where
    by_case : IsFree a.pool address ⊎ ((q : Prefix) × (g.offer ≡ Some q) × span_of q address) → IsFree a.pool address ⊎ ((q : Prefix) × span_of q address × MayGoBack n a q)
    by_case (inl e) = inl e
    by_case (inr e) = inr (e.0, e.2, given_back e.0 e.1)

  turned_freed : (address : ℕ) → IsFree b.pool address → IsFree a.pool address ⊎ FreedBy n n a address
  turned_freed address f = by_case (between_free address (turn_free place g new value between b.pool c address to f)) where
    by_case : IsFree a.pool address ⊎ ((q : Prefix) × span_of q address × MayGoBack n a q) → IsFree a.pool address ⊎ FreedBy n n a address
    by_case (inl e) = inl e
    by_case (inr e) = inr (inl e)

  decided_offer : (p : Prefix) → TurnsTo place g value between c new b.pool → new.offer ≡ Some p → WasOffered n a b Far g.handle p
  decided_offer p (offers q act_is entry r plain) f =
      let same : q ≡ p = some_is q p (ap (λ (u : Giving). u.offer) (sym entry) ∙ f) in
      just_decided refl place idle (is ∙ (ap (λ d. Some d) act_is ∙ ap (λ u. Some (act.Offer place g.handle u)) same)) x own (deciding_unaccepted x.view turn)
      (λ address within. between_free address (r.was address (subst (λ u. span_of u address) (sym same) within)))
  decided_offer p (accepts q act_is entry same back) f = let clash : None ≡ Some p = ap (λ (u : Giving). u.offer) (sym entry) ∙ f in absurd (cc)
  decided_offer p (declines reason act_is entry same) f = let clash : None ≡ Some p = ap (λ (u : Giving). u.offer) (sym entry) ∙ f in absurd (cc)

  turned_offers : (side : Side) (h : Handle) (p : Prefix) → OffersIn b side h p → WasOffered n a b side h p
  turned_offers side h p (in_entry far i f at same offer) = by_case (entry_was a b place g new here handle set i f at) where
    by_case : ((i ≡ place) × (new ≡ f)) ⊎ ((i ≢ place) × (slice_get a.giving i ≡ Some f)) → WasOffered n a b side h p
    by_case (inl e) =
        subst (λ u. WasOffered n a b u h p) (sym far)
        (subst (λ l. WasOffered n a b Far l p) (sym handle ∙ (ap (λ (u : Giving). u.handle) e.1 ∙ same)) (decided_offer p to (ap (λ (u : Giving). u.offer) e.1 ∙ offer)))
    by_case (inr e) = was_there (in_entry far i f e.1 same offer)
  turned_offers side h p (in_return near r is_back same offer) = was_there (in_return near r (sym returns ∙ is_back) same offer)

  turned_reserved : (p : Prefix) → Contains b.pool.reserved p → Contains a.pool.reserved p ⊎ ((i : ℕ) × ((h : Handle) × (a.act ≡ None) × (b.act ≡ Some (act.Offer i h p))))
  turned_reserved p has = by_case (turn_reserved place g new value between b.pool c p to has) where
    by_case : Contains between.reserved p ⊎ (c ≡ act.Offer place g.handle p) → Contains a.pool.reserved p ⊎ ((i : ℕ) × ((h : Handle) × (a.act ≡ None) × (b.act ≡ Some (act.Offer i h p))))
    by_case (inl e) = inl (back_reserved g.offer a.pool between p back e)
    by_case (inr e) = inr (place, (g.handle, idle, is ∙ ap (λ d. Some d) e))

  pub turned : Moved n n a b
  turned = record {
    gives = record {
      want = turned_want;
      entries = turned_entry;
      back = same_back n a b returns k;
      apart = still_apart a b place g new here handle set n k;
      kinds = k.kinds;
      live = still_live a b place g new here handle set n returns k;
    };
    moves = record {
      streams = λ h y u at owner there. same_streams n.sessions n.sessions refl h y u at there;
      freed = turned_freed;
      offered = turned_offers;
      unsent = same_unsent a b returns;
      doubts = λ y p has owner pending. was_gone has;
      keeps_doubts = λ p has. subst (λ l. Contains l p) (sym doubtful_same) has;
      reserved = turned_reserved;
      doubtful = λ p has. inl (subst (λ l. Contains l p) doubtful_same has);
    };
  }
