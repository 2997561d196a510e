-- A session of the agent ends: it is told the outcome, and the session is no longer live.
use Rattle.std.proofs.Common.{◌≡◌, ◌≢◌, ◌⊎◌, refl, sym, ap, ◌∙◌, subst, inl, inr, ℕ, false, List, ◌∷◌, Option, None, Some, Contains, slice_get}
use Rattle.std.proofs.lemmas.Bool.{true≢false}
use Rattle.grasp_agent.specs.Laws.{IsPeersEnd}
use Rattle.grasp_laws_agent.specs.Moves.{finishes, leaves, Effect, Settled, SettlesOffer}
use Rattle.grasp_agent.specs.States.{AgentState, unsent_of, want_session}
use Rattle.grasp_agent.specs.declared.back.Return.{Return}
use Rattle.grasp_agent.specs.declared.giving.Giving.{Giving}
use Rattle.grasp_model_node.specs.Node.{NodeState}
use Rattle.grasp_pool.specs.Holdings.{Holding, IsFree, GivesBack, Confirms, Doubts}
use Rattle.grasp_pool.specs.Spans.{Covers}
use Rattle.grasp_session.specs.Messages.{Side, Near, Far}
use Rattle.grasp_session.specs.Sessions.{SessionState, Sessions, left, session_at}
use Rattle.grasp_session.specs.Transcript.{Transcript, outcome_of}
use Rattle.grasp_types.specs.Prefix.{AddressBlock as Prefix, span_of}
use Rattle.grasp_types.specs.declared.session.By.TheVariants.{Mine, Theirs}
use Rattle.grasp_types.specs.declared.session.Handle.{Handle}
use Rattle.grasp_types.specs.declared.session.Outcome.{Outcome}
use Rattle.grasp_types.specs.declared.session.Outcome.TheVariants as outcome
use Rattle.grasp_laws_agents.proofs.Entries.{some_is, cons_cases, place_before, before_apart, not_removed, removed_back, removed_on}
use Rattle.grasp_laws_agents.proofs.Known.{their_end, declined_unaccepted}
use Rattle.grasp_laws_agents.proofs.Places.{one_handle}
use Rattle.grasp_laws_agents.proofs.Sides.{none_offered, own_kind, kinds_left}
use Rattle.grasp_laws_agents.proofs.Standing.{same_apart, same_back, same_entry, same_has, same_quiet, same_unsent, sides_apart, asked_apart, Moved, IsAsked, rests, idle_entry, own_was, plain_elsewhere, want_elsewhere, back_elsewhere, set_streams}
use Rattle.grasp_laws_agents.specs.Giving.{IsOpenOffer, IsUnaccepted, OfferStands, IsOwnSession, EntryStands, WantStands, ReturnStands, OffersIn, in_entry, in_return, IsOffersSession, of_entry, of_return, Gives}
use Rattle.grasp_laws_agents.specs.OfferLaws.{FreedBy, WasOffered, was_there, WasOpen, was_gone, was_offer, AgentMoves}

-- the node without this session
abbrev pub node_left : NodeState → Handle → SessionState → NodeState
node_left n h x = record n { sessions = left n.sessions h x }

left_streams : (n : NodeState) (k : Handle) (u : SessionState) (h : Handle) (x y : SessionState) → session_at n.sessions h ≡ Some x → session_at (left n.sessions k u) h ≡ Some y → y.stream ≡ x.stream
left_streams n k u h x y at there = set_streams n.sessions (left n.sessions k u) k.place None refl (λ s t e f. absurd (cc)) h x y at there

-- ---- the session of its want

module _ (n : NodeState) (a b : AgentState) (h : Handle) (x : SessionState) (k : Gives n a) (idle : a.act ≡ None) (asked : IsAsked n.sessions h x) (o : Outcome) (e : Effect a (finishes h o) b) where
  finished_want : (l : Handle) → want_session b.want ≡ Some l → WantStands (left n.sessions h x) b l
  finished_want l f = let clash : None ≡ Some l = sym (ap want_session e.4) ∙ f in absurd (cc)

  finished_entry : (place : ℕ) (g : Giving) → slice_get b.giving place ≡ Some g → EntryStands (left n.sessions h x) b place g
  finished_entry place g f =
      let s = idle_entry n a place g k idle (same_entry a b e.1 place g f) in
      rests (left n.sessions h x) b place g (e.3 ∙ idle)
      (plain_elsewhere n.sessions (left n.sessions h x) h.place None refl g s (sides_apart n.sessions h g.handle x s.session asked.own s.own))

  finished_back : (r : Return) (l : Handle) → b.back ≡ Some r → r.session ≡ Some l → ReturnStands (left n.sessions h x) l r.prefix
  finished_back r l is f =
      let s = same_back n a b e.2 k r l is f in
      back_elsewhere n.sessions (left n.sessions h x) h.place None refl l r.prefix s (asked_apart n a h l x r.prefix k asked s)

  finished_live : (l : Handle) (side : Side) (y : SessionState) (p : Prefix) → IsOwnSession (left n.sessions h x) l side y → IsOpenOffer y.view p → IsOffersSession b side l
  finished_live l side y p has pending = by_case (own_was n.sessions (left n.sessions h x) h.place None refl l side y has) where
    by_case : ((l.place ≡ h.place) × (None ≡ Some y)) ⊎ ((l.place ≢ h.place) × IsOwnSession n.sessions l side y) → IsOffersSession b side l
    by_case (inl c) = let clash : None ≡ Some y = c.1 in absurd (cc)
    by_case (inr c) = same_has a b e.1 e.2 l side (k.live l side y p c.1 pending)

  -- a session with an open offer that is no longer live was so before the session of the want was left
  open_gone : (y : SessionState) (p : Prefix) → IsOpenOffer y.view p → Contains (x ∷ n.sessions.gone) y → Contains n.sessions.gone y
  open_gone y p pending has = by_case (cons_cases x y n.sessions.gone has) where
    by_case : (x ≡ y) ⊎ Contains n.sessions.gone y → Contains n.sessions.gone y
    by_case (inl c) =
        absurd (none_offered x.view p asked.own.role (own_kind n a h Near x k asked.own) asked.asks (subst (λ (u : SessionState). IsOpenOffer u.view p) (sym c) pending).offered)
    by_case (inr c) = c

  pub finished : Moved n (node_left n h x) a b
  finished = record {
    gives = record {
      want = finished_want;
      entries = finished_entry;
      back = finished_back;
      apart = same_apart n a b e.1 k;
      kinds = kinds_left n.sessions h x asked.own.at k.kinds;
      live = finished_live;
    };
    moves = same_quiet n (node_left n h x) a b (left_streams n h x) e.0 e.1 e.2 open_gone;
  }

-- ---- what becomes of an offer

-- by the outcome of its session
record Settles (e : Outcome) (p : Prefix) (old new : Holding) : Type 0 where
  free : (address : ℕ) → IsFree new address → IsFree old address ⊎ (span_of p address × ((reason : Option (List ℕ)) × (e ≡ outcome.Declined Theirs reason)))
  reserved : (q : Prefix) → Contains new.reserved q → Contains old.reserved q
  doubtful : (q : Prefix) → Contains new.doubtful q → Contains old.doubtful q ⊎ Contains old.reserved q
  still : (q : Prefix) → Contains old.doubtful q → Contains new.doubtful q
  doubted : (¬ IsPeersEnd e) → Contains new.doubtful p

confirms : (o : Outcome) (p : Prefix) (old new : Holding) → IsPeersEnd o → Confirms old new p → Settles o p old new
confirms o p old new theirs c = record {
  free = λ address f. inl (subst (λ (l : List Prefix). Covers l address) c.free f);
  reserved = λ q has. ((c.reserved q).0 has).0;
  doubtful = λ q has. inl (subst (λ (l : List Prefix). Contains l q) c.doubtful has);
  still = λ q has. subst (λ (l : List Prefix). Contains l q) (sym c.doubtful) has;
  doubted = λ not. absurd (not theirs);
}

gives_back : (reason : Option (List ℕ)) (p : Prefix) (old new : Holding) → GivesBack old new p → Settles (outcome.Declined Theirs reason) p old new
gives_back reason p old new c = record {
  free = λ address f. by_free address ((c.free address).0 f);
  reserved = λ q has. ((c.reserved q).0 has).0;
  doubtful = λ q has. inl (subst (λ (l : List Prefix). Contains l q) c.doubtful has);
  still = λ q has. subst (λ (l : List Prefix). Contains l q) (sym c.doubtful) has;
  doubted = λ not. absurd (not tt);
} where
  by_free : (address : ℕ) → IsFree old address ⊎ span_of p address
      → IsFree old address ⊎ (span_of p address × ((r : Option (List ℕ)) × (outcome.Declined Theirs reason ≡ outcome.Declined Theirs r)))
  by_free address (inl f) = inl f
  by_free address (inr f) = inr (f, (reason, refl))

doubts : (o : Outcome) (p : Prefix) (old new : Holding) → Doubts old new p → Settles o p old new
doubts o p old new c = record {
  free = λ address f. inl (subst (λ (l : List Prefix). Covers l address) c.free f);
  reserved = λ q has. ((c.reserved q).0 has).0;
  doubtful = λ q has. by_doubt q ((c.doubtful q).0 has);
  still = λ q has. (c.doubtful q).1 (inl has);
  doubted = λ not. (c.doubtful p).1 (inr refl);
} where
  by_doubt : (q : Prefix) → Contains old.doubtful q ⊎ (q ≡ p) → Contains old.doubtful q ⊎ Contains old.reserved q
  by_doubt q (inl f) = inl f
  by_doubt q (inr f) = inr (subst (Contains old.reserved) (sym f) c.was)

settles : (o : Outcome) (p : Prefix) (old new : Holding) → Settled o p old new → Settles o p old new
settles (outcome.Agreed Theirs u) p old new s = confirms (outcome.Agreed Theirs u) p old new tt s
settles (outcome.Agreed Mine u) p old new s = doubts (outcome.Agreed Mine u) p old new s
settles (outcome.Declined Theirs reason) p old new s = gives_back reason p old new s
settles (outcome.Declined Mine reason) p old new s = doubts (outcome.Declined Mine reason) p old new s
settles (outcome.Synchronized u) p old new s = doubts (outcome.Synchronized u) p old new s
settles (outcome.TimedOut deadline now) p old new s = doubts (outcome.TimedOut deadline now) p old new s
settles outcome.Broken p old new s = doubts outcome.Broken p old new s
settles outcome.OutOfMemory p old new s = doubts outcome.OutOfMemory p old new s
settles (outcome.Invalid by) p old new s = doubts (outcome.Invalid by) p old new s

-- what becomes of the offer that a session may have
record Leaves (e : Outcome) (o : Option Prefix) (old new : Holding) : Type 0 where
  free : (address : ℕ) → IsFree new address → IsFree old address ⊎ ((p : Prefix) × (o ≡ Some p) × span_of p address × ((reason : Option (List ℕ)) × (e ≡ outcome.Declined Theirs reason)))
  reserved : (q : Prefix) → Contains new.reserved q → Contains old.reserved q
  doubtful : (q : Prefix) → Contains new.doubtful q → Contains old.doubtful q ⊎ Contains old.reserved q
  still : (q : Prefix) → Contains old.doubtful q → Contains new.doubtful q
  doubted : (p : Prefix) → o ≡ Some p → (¬ IsPeersEnd e) → Contains new.doubtful p

leaves_offer : (e : Outcome) (o : Option Prefix) (old new : Holding) → SettlesOffer o e old new → Leaves e o old new
leaves_offer e None old new s = record {
  free = λ address f. inl (subst (λ (h : Holding). IsFree h address) s f);
  reserved = λ q has. subst (λ (h : Holding). Contains h.reserved q) s has;
  doubtful = λ q has. inl (subst (λ (h : Holding). Contains h.doubtful q) s has);
  still = λ q has. subst (λ (h : Holding). Contains h.doubtful q) (sym s) has;
  doubted = λ p f not. absurd (cc);
}
leaves_offer e (Some p) old new s =
    let t = settles e p old new s in
    record {
      free = λ address f. by_free address (t.free address f);
      reserved = t.reserved;
      doubtful = t.doubtful;
      still = t.still;
      doubted = λ q f not. subst (Contains new.doubtful) (some_is p q f) (t.doubted not);
    } where
      by_free : (address : ℕ) → IsFree old address ⊎ (span_of p address × ((reason : Option (List ℕ)) × (e ≡ outcome.Declined Theirs reason)))
          → IsFree old address ⊎ ((q : Prefix) × (Some p ≡ Some q) × span_of q address × ((reason : Option (List ℕ)) × (e ≡ outcome.Declined Theirs reason)))
      by_free address (inl f) = inl f
      by_free address (inr f) = inr (p, refl, f.0, f.1)

-- ---- a session in which the agent offers

open_not_theirs : (v : Transcript) (e : Outcome) (p : Prefix) → outcome_of v ≡ Some e → IsOpenOffer v p → ¬ IsPeersEnd e
open_not_theirs v e p told pending theirs = true≢false (sym (their_end v e told theirs).0 ∙ pending.unanswered)

-- what is open is the offer that stands
open_offer : (o : Option Prefix) (v : Transcript) (p : Prefix) → OfferStands false o v → IsOpenOffer v p → o ≡ Some p
open_offer None v p s pending = absurd (s p pending)
open_offer (Some q) v p s pending = sym s.offer ∙ pending.offered.offer

-- the session, in which the agent offers this or nothing, has ended so, and the offer is settled
module _ (n : NodeState) (a b : AgentState) (side : Side) (h : Handle) (x : SessionState) (own : IsOwnSession n.sessions h side x) (offer : Option Prefix) (stands : OfferStands false offer x.view)
    (offers : (p : Prefix) → offer ≡ Some p → OffersIn a side h p) (o : Outcome) (told : outcome_of x.view ≡ Some o) (settled : SettlesOffer offer o a.pool b.pool) where
  t : Leaves o offer a.pool b.pool
  t = leaves_offer o offer a.pool b.pool settled

  -- what was open in it
  module _ (y : SessionState) (p : Prefix) (same : x ≡ y) (pending : IsOpenOffer y.view p) where
    open_here : IsOpenOffer x.view p
    open_here = subst (λ (u : SessionState). IsOpenOffer u.view p) (sym same) pending

    offered_here : offer ≡ Some p
    offered_here = open_offer offer x.view p stands open_here

    doubted_here : Contains b.pool.doubtful p
    doubted_here = t.doubted p offered_here (open_not_theirs x.view o p told open_here)

  left_freed : (address : ℕ) → IsFree b.pool address → IsFree a.pool address ⊎ FreedBy n (node_left n h x) a address
  left_freed address f = by_case (t.free address f) where
    unaccepted : (reason : Option (List ℕ)) → o ≡ outcome.Declined Theirs reason → IsUnaccepted x.view
    unaccepted reason same =
        let declined : outcome_of x.view ≡ Some (outcome.Declined Theirs reason) = told ∙ ap (λ (u : Outcome). Some u) same in
        record { whole = inr (their_end x.view (outcome.Declined Theirs reason) declined tt).1; no_acceptance = declined_unaccepted x.view Theirs reason declined }

    by_case : IsFree a.pool address ⊎ ((p : Prefix) × (offer ≡ Some p) × span_of p address × ((reason : Option (List ℕ)) × (o ≡ outcome.Declined Theirs reason)))
        → IsFree a.pool address ⊎ FreedBy n (node_left n h x) a address
    by_case (inl c) = inl c
    by_case (inr c) = inr (inl (c.0, c.2, record { handle = h; side = side; session = x; offers = offers c.0 c.1; own = own; unaccepted = unaccepted c.3.0 c.3.1 }))

  left_open : (y : SessionState) (p : Prefix) → Contains (x ∷ n.sessions.gone) y → IsOpenOffer y.view p → WasOpen n a b y p
  left_open y p has pending = by_case (cons_cases x y n.sessions.gone has) where
    by_case : (x ≡ y) ⊎ Contains n.sessions.gone y → WasOpen n a b y p
    by_case (inl c) = was_offer side h x (offers p (offered_here y p c pending)) own.at (ap (λ (u : SessionState). u.stream) (sym c)) (doubted_here y p c pending)
    by_case (inr c) = was_gone c

  pub left_moves : ((s : Side) (l : Handle) (p : Prefix) → OffersIn b s l p → WasOffered n a b s l p) → ((p : Prefix) → unsent_of b.back ≡ Some p → unsent_of a.back ≡ Some p)
      → AgentMoves n (node_left n h x) a b
  left_moves offered unsent = record {
    streams = λ l y u at owner there. left_streams n h x l y u at there;
    freed = left_freed;
    offered = offered;
    unsent = unsent;
    doubts = λ y p has owner pending. left_open y p has pending;
    keeps_doubts = t.still;
    reserved = λ p has. inl (t.reserved p has);
    doubtful = t.doubtful;
  }

-- ---- a session in which it gives

module _ (n : NodeState) (a b : AgentState) (place : ℕ) (g : Giving) (x : SessionState) (k : Gives n a) (idle : a.act ≡ None) (here : slice_get a.giving place ≡ Some g)
    (own : IsOwnSession n.sessions g.handle Far x) (offer : OfferStands false g.offer x.view) (o : Outcome) (told : outcome_of x.view ≡ Some o) (e : Effect a (leaves place g o) b) where
  abbrev z : Sessions
  z = left n.sessions g.handle x

  was : (i : ℕ) (f : Giving) → slice_get b.giving i ≡ Some f → slice_get a.giving (place_before place i) ≡ Some f
  was i f at = sym (removed_back a.giving place i) ∙ (ap (λ (l : List Giving). slice_get l i) (sym e.4) ∙ at)

  -- the other entries are of sessions at other places
  other_place : (i : ℕ) (f : Giving) (y : SessionState) → i ≢ place → slice_get a.giving i ≡ Some f → IsOwnSession n.sessions f.handle Far y → f.handle.place ≢ g.handle.place
  other_place i f y apart at has same = apart (k.apart i place f g at here (one_handle n.sessions f.handle g.handle y x has.at own.at same).0)

  -- and so are those that it requested
  near_place : (l : Handle) (y : SessionState) → IsOwnSession n.sessions l Near y → l.place ≢ g.handle.place
  near_place l y has same = sides_apart n.sessions l g.handle y x has own (sym same)

  left_want : (l : Handle) → want_session b.want ≡ Some l → WantStands z b l
  left_want l f =
      let s = k.want l (ap want_session (sym e.0.0) ∙ f) in
      want_elsewhere n.sessions z g.handle.place None refl a b l s (near_place l s.session s.own) (e.2 ∙ idle)

  left_entry : (i : ℕ) (f : Giving) → slice_get b.giving i ≡ Some f → EntryStands z b i f
  left_entry i f at =
      let s = idle_entry n a (place_before place i) f k idle (was i f at) in
      rests z b i f (e.2 ∙ idle) (plain_elsewhere n.sessions z g.handle.place None refl f s (other_place (place_before place i) f s.session (not_removed place i) (was i f at) s.own))

  left_back : (r : Return) (l : Handle) → b.back ≡ Some r → r.session ≡ Some l → ReturnStands z l r.prefix
  left_back r l is f = let s = same_back n a b e.1 k r l is f in back_elsewhere n.sessions z g.handle.place None refl l r.prefix s (near_place l s.session s.own)

  left_live : (l : Handle) (side : Side) (y : SessionState) (p : Prefix) → IsOwnSession z l side y → IsOpenOffer y.view p → IsOffersSession b side l
  left_live l side y p has pending = by_case (own_was n.sessions z g.handle.place None refl l side y has) where
    by_entry : l.place ≢ g.handle.place → IsOffersSession a side l → IsOffersSession b side l
    by_entry away (of_entry far i f at same) =
        let apart : i ≢ place = λ c. away (ap (λ (u : Handle). u.place) (sym same) ∙ ap (λ (u : Giving). u.handle.place) (some_is f g (sym at ∙ (ap (slice_get a.giving) c ∙ here)))) in
        let j = removed_on a.giving place i f at apart in
        of_entry far j.0 f (ap (λ (u : List Giving). slice_get u j.0) e.4 ∙ j.1) same
    by_entry away (of_return near r is same) = of_return near r (e.1 ∙ is) same

    by_case : ((l.place ≡ g.handle.place) × (None ≡ Some y)) ⊎ ((l.place ≢ g.handle.place) × IsOwnSession n.sessions l side y) → IsOffersSession b side l
    by_case (inl c) = let clash : None ≡ Some y = c.1 in absurd (cc)
    by_case (inr c) = by_entry c.0 (k.live l side y p c.1 pending)

  left_offers : (side : Side) (h : Handle) (p : Prefix) → OffersIn b side h p → WasOffered n a b side h p
  left_offers side h p (in_entry far i f at same has) = was_there (in_entry far (place_before place i) f (was i f at) same has)
  left_offers side h p (in_return near r is same has) = was_there (in_return near r (sym e.1 ∙ is) same has)

  -- what it offers is the offer of its entry
  entry_offers : (p : Prefix) → g.offer ≡ Some p → OffersIn a Far g.handle p
  entry_offers p f = in_entry refl place g here refl f

  pub gave : Moved n (node_left n g.handle x) a b
  gave = record {
    gives = record {
      want = left_want;
      entries = left_entry;
      back = left_back;
      apart = λ i j f h at there same. before_apart place i j (k.apart (place_before place i) (place_before place j) f h (was i f at) (was j h there) same);
      kinds = kinds_left n.sessions g.handle x own.at k.kinds;
      live = left_live;
    };
    moves = left_moves n a b Far g.handle x own g.offer offer entry_offers o told e.3 left_offers (same_unsent a b e.1);
  }
