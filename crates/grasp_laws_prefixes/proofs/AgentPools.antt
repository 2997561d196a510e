-- What the next reply makes of what an agent of prefixes has: what was free is free or was just decided; what it offered it offers still,
-- or it is free or was just decided, or the session ended; and what it was to return is so still, or free, or was just requested.
use Rattle.std.proofs.Common.{◌≡◌, ◌≢◌, refl, sym, ap, ◌∙◌, subst, arith, ℕ, ◌+◌, ◌<◌, ◌≤◌, nat_lt, true, false, inl, inr, ◌⊎◌, List, Option, Some, None, slice_get, slice_set}
use Rattle.std.proofs.lemmas.Bool.{false≢true, cases_eq}
use Rattle.std.proofs.lemmas.Option.{none-some, same_Some}
use Rattle.grasp_agent.proofs.Keeping.{act_stands, between, offer_reserved}
use Rattle.grasp_laws_agent.proofs.Facts.{takes_back}
use Rattle.grasp_laws_agent.proofs.LawMoves.{told_again, at_duty}
use Rattle.grasp_laws_agent.proofs.LawNext.{its_duty}
use Rattle.grasp_agent.specs.Calls.{duty_call}
use Rattle.grasp_agent.specs.Decisions.{giver_decision}
use Rattle.grasp_agent.specs.Kept.{IsKept, ActStands}
use Rattle.grasp_laws_agent.specs.Moves.{Move, comes_in, considers, hands, is_unsent, hears, is_made, is_dropped, gives, leaves}
use Rattle.grasp_laws_agent.specs.Moves.{IsNext, IsReturning, Happens, Effect, Does, Drops, TakesBack, Settled, SettlesOffer, NothingMoves, MovesAreMade, NothingElseMoves}
use Rattle.grasp_agent.specs.Replies.{answer_in, started_in, progress_in, giving_back, deciding, give_act, after_give_progress, after_giver_turn, advanced, after_reply}
use Rattle.grasp_agent.specs.States.{AgentState, is_returning, unsent_of}
use Rattle.grasp_agent.specs.declared.act.Act.{Act}
use Rattle.grasp_agent.specs.declared.act.Act.TheVariants as act
use Rattle.grasp_agent.specs.declared.back.Return.{Return}
use Rattle.grasp_agent.specs.declared.duty.Duty.{Duty}
use Rattle.grasp_agent.specs.declared.duty.Duty.TheVariants as duty
use Rattle.grasp_agent.specs.declared.giving.Giving.{Giving}
use Rattle.grasp_pool.proofs.Lists.{lt_tells}
use Rattle.grasp_pool.specs.Holdings.{Holding, IsFree}
use Rattle.grasp_pool.specs.Spans.{Covers, size}
use Rattle.grasp_session.specs.Messages.{Side, Near, Far}
use Rattle.grasp_types.specs.Prefix.{AddressBlock as Prefix, span_of}
use Rattle.grasp_types.specs.declared.call.Call.TheVariants as call
use Rattle.grasp_types.specs.declared.objective.Objective.{Objective}
use Rattle.grasp_types.specs.declared.reply.Reply.{Reply}
use Rattle.grasp_types.specs.declared.session.By.TheVariants.{Theirs}
use Rattle.grasp_types.specs.declared.session.Handle.{Handle}
use Rattle.grasp_types.specs.declared.session.Progress.TheVariants as progress
use Rattle.grasp_types.specs.declared.session.Outcome.{Outcome}
use Rattle.grasp_types.specs.declared.session.Outcome.TheVariants as outcome
use Rattle.grasp_laws_network.proofs.Others.{set_elsewhere}
use Rattle.grasp_laws_agents.proofs.Entries.{last_on, removed_on}
use Rattle.grasp_laws_agents.proofs.Deciding.{TurnsTo, offers, accepts, declines, decided}
use Rattle.grasp_laws_agents.specs.Giving.{OffersIn, in_entry, in_return}
use Rattle.grasp_laws_prefixes.proofs.EntryOffers.{not_requested, return_of}

-- an address is one of the prefix, or isn't
pub span_tells : (p : Prefix) (a : ℕ) → span_of p a ⊎ (¬ span_of p a)
span_tells p a = by_case (lt_tells a p.address) (lt_tells a (p.address + size p)) where
  below : (m n : ℕ) → m < n → n ≤ m → ⊥
  below m n h k = omega (arith, h, k)

  by_case : ((nat_lt a p.address ≡ true) × (a < p.address)) ⊎ ((nat_lt a p.address ≡ false) × (p.address ≤ a))
      → ((nat_lt a (p.address + size p) ≡ true) × (a < p.address + size p)) ⊎ ((nat_lt a (p.address + size p) ≡ false) × (p.address + size p ≤ a)) → span_of p a ⊎ (¬ span_of p a)
  by_case (inl low) u = inr (λ i. below a p.address low.1 i.0)
  by_case (inr from) (inl to) = inl (from.1, to.1)
  by_case (inr from) (inr past) = inr (λ i. below a (p.address + size p) i.1 past.1)

-- the address is free then, or in a prefix that was just decided
pub data IsNow (a b : AgentState) (address : ℕ) : Type 0 where
  is_free : IsFree b.pool address → IsNow a b address
  is_decided : (place : ℕ) (h : Handle) (p : Prefix) → a.act ≡ None → b.act ≡ Some (act.Offer place h p) → span_of p address → IsNow a b address

same_free : (old new : Holding) (address : ℕ) → new ≡ old → IsFree old address → IsFree new address
same_free old new address e f = subst (λ (h : Holding). IsFree h address) (sym e) f

does_free : (c : Act) (old new : Holding) (address : ℕ) → Does c old new → IsFree old address → IsFree new address
does_free (act.Accept h p) old new address e f = (e.free address).1 (inl f)
does_free _ old new address e f = same_free old new address e f

drops_free : (c : Act) (a b : AgentState) (address : ℕ) → Drops c a b → IsFree a.pool address → IsFree b.pool address
drops_free (act.Offer place h p) a b address e f = (e.0.free address).1 (inl f)
drops_free _ a b address e f = same_free a.pool b.pool address e.0 f

back_free : (o : Option Prefix) (old new : Holding) (address : ℕ) → TakesBack o old new → IsFree old address → IsFree new address
back_free None old new address e f = same_free old new address e f
back_free (Some p) old new address e f = (e.free address).1 (inl f)

-- a giver's turn: its last offer is free again, and its decision is the act and the entry
pub record Turned (a b : AgentState) (place : ℕ) (g : Giving) : Type 0 where
  pub request : Objective
  pub between : Holding
  pub decision : Act
  pub entry : Giving
  pub back : TakesBack g.offer a.pool between
  pub to : TurnsTo place g request.value between decision entry b.pool
  pub set : b.giving ≡ slice_set a.giving place entry
  pub is : b.act ≡ Some decision

pub turned : (a : AgentState) (r : Reply) (place : ℕ) (g : Giving) (o : Objective) → IsKept a → Happens a r (gives place g o) → Turned a (after_reply a r) place g
turned a r place g o kept y = subst (λ z. Turned a z place g) (sym after_turn) (record {
  request = o;
  between = giving_back a.pool g.offer;
  decision = give_act place g.handle (giver_decision (giving_back a.pool g.offer) o.value o.loops g.first);
  entry = deciding g (giver_decision (giving_back a.pool g.offer) o.value o.loops g.first);
  back = takes_back a.pool g.offer kept.pool (offer_reserved a place g y.1 kept);
  to = decided place g (giving_back a.pool g.offer) o.value o.loops g.first (between a place g y.1 kept).pool;
  set = refl;
  is = refl;
}) where
  after_turn : after_reply a r ≡ advanced (after_giver_turn a place g o)
  after_turn =
      at_duty a r _ (told_again progress_in r (progress.Turn o) refl y.2) y.0
      ∙ (ap (λ p. advanced (after_give_progress a place (slice_get a.giving place) p)) y.2 ∙ ap (λ x. advanced (after_give_progress a place x (Some (progress.Turn o)))) y.1)

-- what is free before a giver decides
turn_now : (a b : AgentState) (place : ℕ) (g : Giving) (t : Turned a b place g) (address : ℕ) → a.act ≡ None → IsFree t.between address → IsNow a b address
turn_now a b place g t address none f = by_decision t.to where
  by_decision : TurnsTo place g t.request.value t.between t.decision t.entry b.pool → IsNow a b address
  by_decision (offers p e entry res kind) = by_span (span_tells p address) where
    by_span : span_of p address ⊎ (¬ span_of p address) → IsNow a b address
    by_span (inl i) = is_decided place g.handle p none (t.is ∙ ap (λ c. Some c) e) i
    by_span (inr outside) = is_free ((res.free address).1 (f, outside))
  by_decision (accepts p e entry same kind) = is_free (same_free t.between b.pool address same f)
  by_decision (declines reason e entry same) = is_free (same_free t.between b.pool address same f)

settled_free : (o : Outcome) (p : Prefix) (old new : Holding) (address : ℕ) → Settled o p old new → IsFree old address → IsFree new address
settled_free (outcome.Agreed Theirs u) p old new address s f = subst (λ (l : List Prefix). Covers l address) (sym s.free) f
settled_free (outcome.Declined Theirs reason) p old new address s f = (s.free address).1 (inl f)
settled_free _ p old new address s f = subst (λ (l : List Prefix). Covers l address) (sym s.free) f

offer_free : (g : Option Prefix) (o : Outcome) (old new : Holding) (address : ℕ) → SettlesOffer g o old new → IsFree old address → IsFree new address
offer_free None o old new address s f = same_free old new address s f
offer_free (Some p) o old new address s f = settled_free o p old new address s f

module _ (moves : MovesAreMade) (nothing : NothingElseMoves) (a : AgentState) (r : Reply) (kept : IsKept a) where
  abbrev b : AgentState
  b = after_reply a r

  moved_free : (m : Move) → Happens a r m → Effect a m b → (address : ℕ) → IsFree a.pool address → IsNow a b address
  moved_free (is_made c) y e address f = is_free (does_free c a.pool b.pool address e.4 f)
  moved_free (is_dropped c) y e address f = is_free (drops_free c a b address e.3 f)
  moved_free (gives place g o) y e address f =
      let t = turned a r place g o kept y in
      turn_now a b place g t address y.0.idle (back_free g.offer a.pool t.between address t.back f)
  moved_free (leaves place g o) y e address f = is_free (offer_free g.offer o a.pool b.pool address e.3 f)
  moved_free (is_unsent x) y e address f = is_free ((e.4.2.free address).1 (inl f))
  moved_free (hears h o) y e address f = is_free (settled_free o e.4.0.prefix a.pool b.pool address e.4.2 f)
  moved_free _ y e address f = is_free (same_free a.pool b.pool address e.0 f)

  pub still_free : (address : ℕ) → IsFree a.pool address → IsNow a b address
  still_free address f = by_case (nothing a r) where
    by_case : ((m : Move) × Happens a r m) ⊎ NothingMoves a b → IsNow a b address
    by_case (inl m) = moved_free m.0 m.1 (moves a r m.0 kept m.1) address f
    by_case (inr n) = is_free (same_free a.pool b.pool address n.pool f)

  -- ---- what it offers

  -- it offers the prefix in the same session; or the addresses are free, or in what was just decided; or the next duty was to ask how the
  -- session stands, and it ended, with this outcome
  pub data OfferNow (side : Side) (h : Handle) (p : Prefix) : Type 0 where
    stays : OffersIn b side h p → OfferNow side h p
    goes : ((address : ℕ) → span_of p address → IsNow a b address) → OfferNow side h p
    ends : (d : Duty) (e : Outcome) → IsNext a d → duty_call d ≡ call.Poll h → progress_in (answer_in r) ≡ Some (progress.Ended e) → Settled e p a.pool b.pool → OfferNow side h p

  module _ (side : Side) (handle : Handle) (p : Prefix) (far : side ≡ Far) (place : ℕ) (g : Giving) (at : slice_get a.giving place ≡ Some g) (own : g.handle ≡ handle) (offer : g.offer ≡ Some p) where
    stays_at : (new : ℕ) → slice_get b.giving new ≡ Some g → OfferNow side handle p
    stays_at new there = stays (in_entry far new g there own offer)

    same_entry : b.giving ≡ a.giving → OfferNow side handle p
    same_entry e = stays_at place (ap (λ (xs : List Giving). slice_get xs place) e ∙ at)

    other_entry : (i : ℕ) (f : Giving) → b.giving ≡ slice_set a.giving i f → place ≢ i → OfferNow side handle p
    other_entry i f e apart = stays_at place (ap (λ (xs : List Giving). slice_get xs place) e ∙ (set_elsewhere a.giving i place f apart ∙ at))

    dropped : (c : Act) → a.act ≡ Some c → ActStands a c → Drops c a b → OfferNow side handle p
    dropped (act.Offer i h z) is st d = by_place (cases_eq place i) where
      same : place ≡ i → g ≡ record { handle = h; offer = Some z; first = false }
      same e = same_Some g (record { handle = h; offer = Some z; first = false }) (sym at ∙ (ap (slice_get a.giving) e ∙ st))

      prefix_is : place ≡ i → p ≡ z
      prefix_is e = same_Some p z (sym offer ∙ ap (λ (f : Giving). f.offer) (same e))

      by_place : (place ≡ i) ⊎ (place ≡ i → ⊥) → OfferNow side handle p
      by_place (inl e) = goes (λ address span. is_free ((d.0.free address).1 (inr (subst (λ u. span_of u address) (prefix_is e) span))))
      by_place (inr apart) = other_entry i (record { handle = h; offer = None; first = false }) d.1 apart
    dropped _ is st d = same_entry d.1

    turned_entry : (i : ℕ) (f : Giving) → a.act ≡ None → slice_get a.giving i ≡ Some f → Turned a b i f → OfferNow side handle p
    turned_entry i f none there t = by_place (cases_eq place i) where
      back : place ≡ i → TakesBack (Some p) a.pool t.between
      back e = subst (λ o. TakesBack o a.pool t.between) (ap (λ (u : Giving). u.offer) (same_Some f g (sym there ∙ (ap (slice_get a.giving) (sym e) ∙ at))) ∙ offer) t.back

      by_place : (place ≡ i) ⊎ (place ≡ i → ⊥) → OfferNow side handle p
      by_place (inl e) = goes (λ address span. turn_now a b i f t address none (((back e).free address).1 (inr span)))
      by_place (inr apart) = other_entry i t.entry t.set apart

    left_entry : (i : ℕ) (f : Giving) (o : Outcome) → Happens a r (leaves i f o) → Effect a (leaves i f o) b → OfferNow side handle p
    left_entry i f o y e = by_place (cases_eq place i) where
      same : place ≡ i → f ≡ g
      same k = same_Some f g (sym y.1 ∙ (ap (slice_get a.giving) (sym k) ∙ at))

      by_place : (place ≡ i) ⊎ (place ≡ i → ⊥) → OfferNow side handle p
      by_place (inl k) =
          let offer_is : f.offer ≡ Some p = ap (λ (u : Giving). u.offer) (same k) ∙ offer in
          ends (duty.Give i f.handle) o y.0 (ap (λ (u : Giving). call.Poll u.handle) (same k) ∙ ap (λ u. call.Poll u) own) y.2 (subst (λ u. SettlesOffer u o a.pool b.pool) offer_is e.3)
      by_place (inr apart) = let j = removed_on a.giving i place g at apart in stays_at j.0 (ap (λ (xs : List Giving). slice_get xs j.0) e.4 ∙ j.1)

    moved_entry : (m : Move) → Happens a r m → Effect a m b → OfferNow side handle p
    moved_entry (comes_in h) y e = stays_at place (ap (λ (xs : List Giving). slice_get xs place) e.4 ∙ last_on a.giving (record { handle = h; offer = None; first = true }) place g at)
    moved_entry (is_made c) y e = same_entry e.0
    moved_entry (is_dropped c) y e = dropped c y.0 (act_stands a c y.0 kept) e.3
    moved_entry (gives i f o) y e = turned_entry i f y.0.idle y.1 (turned a r i f o kept y)
    moved_entry (leaves i f o) y e = left_entry i f o y e
    moved_entry (is_unsent x) y e = same_entry e.0
    moved_entry (hears h o) y e = same_entry e.0
    moved_entry _ y e = same_entry e.1

    entry_now : OfferNow side handle p
    entry_now = by_case (nothing a r) where
      by_case : ((m : Move) × Happens a r m) ⊎ NothingMoves a b → OfferNow side handle p
      by_case (inl m) = moved_entry m.0 m.1 (moves a r m.0 kept m.1)
      by_case (inr n) = same_entry n.giving

  -- what it returns in a session
  module _ (side : Side) (handle : Handle) (p : Prefix) (near : side ≡ Near) (v : Return) (is : a.back ≡ Some v) (on : v.session ≡ Some handle) (same : v.prefix ≡ p) where
    same_return : b.back ≡ a.back → OfferNow side handle p
    same_return e = stays (in_return near v (e ∙ is) on same)

    -- it was requested
    was_sent : is_returning a.back ≡ true → OfferNow side handle p
    was_sent e = absurd (false≢true (sym (ap is_returning is ∙ ap (λ o. is_returning (Some (record v { session = o }))) on) ∙ e))

    heard : (h : Handle) (o : Outcome) → Happens a r (hears h o) → Effect a (hears h o) b → OfferNow side handle p
    heard h o y e =
        let one : e.4.0 ≡ v = same_Some e.4.0 v (sym e.4.1 ∙ is) in
        let here = return_of a.back h (its_duty a (duty.Return h) y.0.duty) in
        let session : h ≡ handle = same_Some h handle (sym here.2 ∙ (ap (λ (u : Return). u.session) (same_Some here.0 v (sym here.1 ∙ is)) ∙ on)) in
        ends (duty.Return h) o y.0 (ap (λ u. call.Poll u) session) y.1 (subst (λ u. Settled o u a.pool b.pool) (ap (λ (u : Return). u.prefix) one ∙ same) e.4.2)

    moved_return : (m : Move) → Happens a r m → Effect a m b → OfferNow side handle p
    moved_return (considers h o) y e = same_return e.3
    moved_return (hands h) y e = was_sent y.0.returns
    moved_return (is_unsent x) y e = was_sent y.0.returns
    moved_return (hears h o) y e = heard h o y e
    moved_return (is_dropped c) y e = same_return e.1
    moved_return (gives i f o) y e = same_return e.1
    moved_return (leaves i f o) y e = same_return e.1
    moved_return _ y e = same_return e.2

    return_now : OfferNow side handle p
    return_now = by_case (nothing a r) where
      by_case : ((m : Move) × Happens a r m) ⊎ NothingMoves a b → OfferNow side handle p
      by_case (inl m) = moved_return m.0 m.1 (moves a r m.0 kept m.1)
      by_case (inr n) = same_return n.back

  pub offer_now : (side : Side) (handle : Handle) (p : Prefix) → OffersIn a side handle p → OfferNow side handle p
  offer_now side handle p (in_entry far place g at own offer) = entry_now side handle p far place g at own offer
  offer_now side handle p (in_return near v is on same) = return_now side handle p near v is on same

  -- ---- what it is to return and hasn't requested to yet

  -- it is so still; or its addresses are free; or its request has just begun a session
  pub data UnsentNow (p : Prefix) : Type 0 where
    waits : unsent_of b.back ≡ Some p → UnsentNow p
    is_back : ((address : ℕ) → span_of p address → IsFree b.pool address) → UnsentNow p
    is_requested : (h : Handle) → IsReturning a → started_in (answer_in r) ≡ Some h → OffersIn b Near h p → UnsentNow p

  module _ (p : Prefix) (unsent : unsent_of a.back ≡ Some p) where
    unsent_prefix : (v : Return) → a.back ≡ Some v → v.prefix ≡ p
    unsent_prefix v is = by_session v.session (ap unsent_of (sym is) ∙ unsent) where
      by_session : (o : Option Handle) → unsent_of (Some (record v { session = o })) ≡ Some p → v.prefix ≡ p
      by_session None f = same_Some v.prefix p f
      by_session (Some h) f = absurd (none-some p f)

    same_unsent : b.back ≡ a.back → UnsentNow p
    same_unsent e = waits (ap unsent_of e ∙ unsent)

    moved_unsent : (m : Move) → Happens a r m → Effect a m b → UnsentNow p
    moved_unsent (considers h o) y e = same_unsent e.3
    moved_unsent (hands h) y e = is_requested h y.0 y.1 (in_return refl (record e.4.0 { session = Some h }) e.4.2 refl (unsent_prefix e.4.0 e.4.1))
    moved_unsent (is_unsent x) y e = is_back (λ address span. (e.4.2.free address).1 (inr (subst (λ u. span_of u address) (sym (unsent_prefix e.4.0 e.4.1)) span)))
    moved_unsent (hears h o) y e = let v = return_of a.back h (its_duty a (duty.Return h) y.0.duty) in absurd (not_requested a.back v.0 h p unsent v.1 v.2)
    moved_unsent (is_dropped c) y e = same_unsent e.1
    moved_unsent (gives i f o) y e = same_unsent e.1
    moved_unsent (leaves i f o) y e = same_unsent e.1
    moved_unsent _ y e = same_unsent e.2

    pub unsent_now : UnsentNow p
    unsent_now = by_case (nothing a r) where
      by_case : ((m : Move) × Happens a r m) ⊎ NothingMoves a b → UnsentNow p
      by_case (inl m) = moved_unsent m.0 m.1 (moves a r m.0 kept m.1)
      by_case (inr n) = same_unsent n.back
