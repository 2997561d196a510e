-- What an agent offers is reserved, in one session for each prefix, and that session is its own; and so is what it is to return.
use Rattle.std.proofs.Common.{◌≡◌, refl, sym, ap, ◌∙◌, subst, arith, ℕ, zero, suc, List, [], ◌∷◌, AllPairs, Contains, Option, Some, None, slice_get}
use Rattle.std.proofs.lemmas.Option.{none-some, same_Some}
use Rattle.grasp_agent.proofs.Offers.{rest_without, and_more, offer_there}
use Rattle.grasp_agent.specs.Kept.{IsKept, offers, offer_and, returned}
use Rattle.grasp_agent.specs.States.{AgentState, back_session, unsent_of}
use Rattle.grasp_agent.specs.declared.back.Return.{Return}
use Rattle.grasp_agent.specs.declared.giving.Giving.{Giving}
use Rattle.grasp_model_node.specs.Node.{NodeState}
use Rattle.grasp_pool.proofs.Unique.{cons_first}
use Rattle.grasp_session.specs.Messages.{Side}
use Rattle.grasp_session.specs.Sessions.{SessionState, session_at}
use Rattle.grasp_types.specs.Prefix.{AddressBlock as Prefix}
use Rattle.grasp_types.specs.declared.session.Handle.{Handle}
use Rattle.grasp_laws_agents.specs.Giving.{Gives, IsOwnSession, OffersIn, in_entry, in_return}

-- ---- no two offers are of one prefix

abbrev Differ : List Prefix → Type 0
Differ ps = AllPairs (λ (p q : Prefix). ¬ (p ≡ q)) ps

rest_differ : (o : Option Prefix) (ps : List Prefix) → Differ (offer_and o ps) → Differ ps
rest_differ None ps h = h
rest_differ (Some p) ps h = λ i j d lt within. h (suc i) (suc j) d (omega arith) (omega arith)

first_apart : (o : Option Prefix) (ps : List Prefix) (p : Prefix) → o ≡ Some p → Differ (offer_and o ps) → ¬ Contains ps p
first_apart o ps p e h = rest_without [] ps p (subst (λ x. Differ (offer_and x ps)) e h)

one_place : (xs : List Giving) (i j : ℕ) (g k : Giving) (p : Prefix) → Differ (offers xs) → slice_get xs i ≡ Some g → g.offer ≡ Some p → slice_get xs j ≡ Some k → k.offer ≡ Some p → g ≡ k
one_place [] i j g k p h at e there f = absurd (none-some g at)
one_place (x ∷ xs) zero zero g k p h at e there f = sym (same_Some x g at) ∙ same_Some x k there
one_place (x ∷ xs) zero (suc j) g k p h at e there f = absurd (first_apart x.offer (offers xs) p (ap (λ (z : Giving). z.offer) (same_Some x g at) ∙ e) h (offer_there xs j k p there f))
one_place (x ∷ xs) (suc i) zero g k p h at e there f = absurd (first_apart x.offer (offers xs) p (ap (λ (z : Giving). z.offer) (same_Some x k there) ∙ f) h (offer_there xs i g p at e))
one_place (x ∷ xs) (suc i) (suc j) g k p h at e there f = one_place xs i j g k p (rest_differ x.offer (offers xs) h) at e there f

one_entry : (a : AgentState) (i j : ℕ) (g k : Giving) (p : Prefix) → IsKept a → slice_get a.giving i ≡ Some g → g.offer ≡ Some p → slice_get a.giving j ≡ Some k → k.offer ≡ Some p → g.handle ≡ k.handle
one_entry a i j g k p kept at e there f = ap (λ (z : Giving). z.handle) (one_place a.giving i j g k p (rest_differ (returned a.back) (offers a.giving) kept.once) at e there f)

-- what is to be returned is in no entry
not_both : (a : AgentState) (p : Prefix) → IsKept a → returned a.back ≡ Some p → (place : ℕ) (g : Giving) → slice_get a.giving place ≡ Some g → g.offer ≡ Some p → ⊥
not_both a p kept is place g at e = first_apart (returned a.back) (offers a.giving) p is kept.once (offer_there a.giving place g p at e)

-- ---- a return

returned_is : (a : AgentState) (r : Return) (p : Prefix) → a.back ≡ Some r → r.prefix ≡ p → returned a.back ≡ Some p
returned_is a r p is e = ap returned is ∙ ap (λ q. Some q) e

unsent_is : (b : Option Return) (p : Prefix) → unsent_of b ≡ Some p → returned b ≡ Some p
unsent_is None p e = absurd (none-some p e)
unsent_is (Some r) p e = by_session r.session e where
  by_session : (o : Option Handle) → unsent_of (Some (record r { session = o })) ≡ Some p → Some r.prefix ≡ Some p
  by_session None f = f
  by_session (Some h) f = absurd (none-some p f)

-- one that isn't requested yet has no session
pub not_requested : (b : Option Return) (r : Return) (h : Handle) (p : Prefix) → unsent_of b ≡ Some p → b ≡ Some r → r.session ≡ Some h → ⊥
not_requested b r h p e is on = none-some p (sym (ap (λ o. unsent_of (Some (record r { session = o }))) on) ∙ (ap unsent_of (sym is) ∙ e))

-- the return of a session
pub return_of : (b : Option Return) (h : Handle) → back_session b ≡ Some h → (r : Return) × (b ≡ Some r) × (r.session ≡ Some h)
return_of None h e = absurd (none-some h e)
return_of (Some r) h e = (r, refl, e)

-- ---- what is offered

pub one_offer : (a : AgentState) (i j : Side) (h k : Handle) (p : Prefix) → IsKept a → OffersIn a i h p → OffersIn a j k p → h ≡ k
one_offer a i j h k p kept (in_entry far place g at on offer) (in_entry also there f found of same) = sym on ∙ (one_entry a place there g f p kept at offer found same ∙ of)
one_offer a i j h k p kept (in_entry far place g at on offer) (in_return near r is of e) = absurd (not_both a p kept (returned_is a r p is e) place g at offer)
one_offer a i j h k p kept (in_return near r is of e) (in_entry far place g at on offer) = absurd (not_both a p kept (returned_is a r p is e) place g at offer)
one_offer a i j h k p kept (in_return near r is on e) (in_return also z at of f) = same_Some h k (sym on ∙ (ap (λ (u : Return). u.session) (same_Some r z (sym is ∙ at)) ∙ of))

returned_reserved : (a : AgentState) (p : Prefix) → IsKept a → returned a.back ≡ Some p → Contains a.pool.reserved p
returned_reserved a p kept is = (kept.reserved p).1 (subst (λ o. Contains (offer_and o (offers a.giving)) p) (sym is) (cons_first p (offers a.giving)))

pub offers_reserved : (a : AgentState) (side : Side) (h : Handle) (p : Prefix) → IsKept a → OffersIn a side h p → Contains a.pool.reserved p
offers_reserved a side h p kept (in_entry far place g at on offer) = (kept.reserved p).1 (and_more (returned a.back) (offers a.giving) p (offer_there a.giving place g p at offer))
offers_reserved a side h p kept (in_return near r is on e) = returned_reserved a p kept (returned_is a r p is e)

pub unsent_reserved : (a : AgentState) (p : Prefix) → IsKept a → unsent_of a.back ≡ Some p → Contains a.pool.reserved p
unsent_reserved a p kept e = returned_reserved a p kept (unsent_is a.back p e)

-- a return that isn't requested yet is offered in no session
pub unsent_unoffered : (a : AgentState) (side : Side) (h : Handle) (p : Prefix) → IsKept a → unsent_of a.back ≡ Some p → ¬ OffersIn a side h p
unsent_unoffered a side h p kept e (in_entry far place g at on offer) = not_both a p kept (unsent_is a.back p e) place g at offer
unsent_unoffered a side h p kept e (in_return near r is on same) = not_requested a.back r h p e is on

-- an agent with the same entries and the same return offers the same
pub same_offers : (a b : AgentState) (side : Side) (h : Handle) (p : Prefix) → b.giving ≡ a.giving → b.back ≡ a.back → OffersIn b side h p → OffersIn a side h p
same_offers a b side h p e f (in_entry far place g at on offer) = in_entry far place g (ap (λ (gs : List Giving). slice_get gs place) (sym e) ∙ at) on offer
same_offers a b side h p e f (in_return near r is on same) = in_return near r (sym f ∙ is) on same

pub offering_session : (n : NodeState) (a : AgentState) (side : Side) (h : Handle) (p : Prefix) → Gives n a → OffersIn a side h p → (x : SessionState) × IsOwnSession n.sessions h side x
offering_session n a side h p gives (in_entry far place g at on offer) =
    let e = gives.entries place g at in
    (e.session, record { at = ap (λ k. session_at n.sessions k) (sym on) ∙ e.own.at; owner = e.own.owner; role = e.own.role ∙ sym far })
offering_session n a side h p gives (in_return near r is on e) =
    let b = gives.back r h is on in
    (b.session, record { at = b.own.at; owner = b.own.owner; role = b.own.role ∙ sym near })
