-- For which streams the reserved prefixes of a network are listed, and what is offered there.
use Rattle.std.proofs.Common.{◌≡◌, ◌⊎◌, inl, inr, ℕ, zero, suc, Bool, true, false, List, [], ◌∷◌, Contains, slice_get, Option, None, Some, refl, sym, ap, ◌∙◌, subst, arith}
use Rattle.std.proofs.lemmas.Bool.{false≢true, eqb-true}
use Rattle.std.proofs.lemmas.Option.{none-some, same_Some}
use Rattle.grasp_agent.proofs.Keeping.{act_stands}
use Rattle.grasp_agent.specs.Kept.{IsKept, offer_and, offers, returned}
use Rattle.grasp_agent.specs.States.{AgentState, unsent_of}
use Rattle.grasp_agent.specs.declared.act.Act.{Act}
use Rattle.grasp_agent.specs.declared.act.Act.TheVariants as act
use Rattle.grasp_agent.specs.declared.back.Return.{Return}
use Rattle.grasp_agent.specs.declared.giving.Giving.{Giving}
use Rattle.grasp_laws_agents.proofs.Places.{one_handle}
use Rattle.grasp_laws_agents.specs.Giving.{HasOffered, OfferStands, IsOwnSession, OffersIn, in_entry, in_return, is_offering, Gives}
use Rattle.grasp_laws_agents.specs.Laws.{AgentsAreKept}
use Rattle.grasp_laws_agents.specs.OfferLaws.{AgentsGive}
use Rattle.grasp_laws_listed.specs.Reserved.{IsAboutToOffer, IsOfferedOn, IsReserved, IsUnsent, ReservedAreOffered}
use Rattle.grasp_laws_network.specs.Nodes.{OfEachNode}
use Rattle.grasp_laws_prefixes.specs.Known.{OffersStand, OffersAreKnown}
use Rattle.grasp_laws_session.proofs.Runs.{calls_in_order}
use Rattle.grasp_model_network.specs.Runs.{IsReached}
use Rattle.grasp_model_network.specs.Setting.{Setting}
use Rattle.grasp_model_network.specs.Streams.{StreamEnd, StreamState, end_at}
use Rattle.grasp_model_network.specs.World.{Offered, Seat, WorldState, end_of}
use Rattle.grasp_model_node.specs.BoundedNodes.{IsBoundedNode}
use Rattle.grasp_model_node.specs.Node.{NodeState}
use Rattle.grasp_session.proofs.Tables.{state_slot}
use Rattle.grasp_session.specs.Messages.{Side, Near, Far}
use Rattle.grasp_session.specs.Sessions.{SessionState}
use Rattle.grasp_types.specs.Prefix.{AddressBlock as Prefix}
use Rattle.grasp_types.specs.declared.session.Handle.{Handle}

-- ---- what an agent has reserved it returns or offers in an entry

record IsEntryOffer (giving : List Giving) (p : Prefix) : Type 0 where
  place : ℕ
  entry : Giving
  at : slice_get giving place ≡ Some entry
  offer : entry.offer ≡ Some p

record IsReturnOf (back : Option Return) (p : Prefix) : Type 0 where
  return : Return
  is : back ≡ Some return
  prefix : return.prefix ≡ p

behind_first : (q p : Prefix) (ps : List Prefix) → Contains (q ∷ ps) p → (q ≡ p) ⊎ Contains ps p
behind_first q p ps (zero, within, at) = inl at
behind_first q p ps (suc k, within, at) = inr (k, omega (arith, within), at)

one_or_rest : (o : Option Prefix) (p : Prefix) (ps : List Prefix) → Contains (offer_and o ps) p → (o ≡ Some p) ⊎ Contains ps p
one_or_rest None p ps c = inr c
one_or_rest (Some q) p ps c = by (behind_first q p ps c) where
  by : (q ≡ p) ⊎ Contains ps p → (Some q ≡ Some p) ⊎ Contains ps p
  by (inl e) = inl (ap Some e)
  by (inr i) = inr i

entry_offers : (giving : List Giving) (p : Prefix) → Contains (offers giving) p → IsEntryOffer giving p
entry_offers [] p (k, within, at) = absurd (omega (arith, within))
entry_offers (g ∷ gs) p c = by (one_or_rest g.offer p (offers gs) c) (λ i. entry_offers gs p i) where
  by : (g.offer ≡ Some p) ⊎ Contains (offers gs) p → (Contains (offers gs) p → IsEntryOffer gs p) → IsEntryOffer (g ∷ gs) p
  by (inl e) rest = record { place = 0; entry = g; at = refl; offer = e }
  by (inr i) rest = let r = rest i in record { place = suc r.place; entry = r.entry; at = r.at; offer = r.offer }

return_offers : (back : Option Return) (p : Prefix) → returned back ≡ Some p → IsReturnOf back p
return_offers None p e = absurd (none-some p e)
return_offers (Some r) p e = record { return = r; is = refl; prefix = same_Some r.prefix p e }

is_offered : (a : AgentState) (p : Prefix) → IsKept a → Contains a.pool.reserved p → IsReturnOf a.back p ⊎ IsEntryOffer a.giving p
is_offered a p k c = by (one_or_rest (returned a.back) p (offers a.giving) ((k.reserved p).0 c)) where
  by : (returned a.back ≡ Some p) ⊎ Contains (offers a.giving) p → IsReturnOf a.back p ⊎ IsEntryOffer a.giving p
  by (inl e) = inl (return_offers a.back p e)
  by (inr i) = inr (entry_offers a.giving p i)

-- ---- the last offer of an entry's session

-- what an entry offers was said last, or is about to be
last_offer : (a : AgentState) (place : ℕ) (g : Giving) (x : SessionState) (p : Prefix) → IsKept a → slice_get a.giving place ≡ Some g → g.offer ≡ Some p
    → OfferStands (is_offering a.act place) g.offer x.view → HasOffered x.view p ⊎ IsAboutToOffer a g.handle p
last_offer a place g x p kept at is stands = by (is_offering a.act place) refl stands where
  to_offer : (o : Option Act) → a.act ≡ o → is_offering o place ≡ true → IsAboutToOffer a g.handle p
  to_offer None e f = absurd (false≢true f)
  to_offer (Some (act.Offer there h q)) e f =
      let same : there ≡ place = eqb-true there place f in
      let entry : record { handle = h; offer = Some q; first = false } ≡ g
      = same_Some (record { handle = h; offer = Some q; first = false }) g (sym (act_stands a (act.Offer there h q) e kept) ∙ (ap (slice_get a.giving) same ∙ at)) in
      let its : q ≡ p = same_Some q p (ap (λ (k : Giving). k.offer) entry ∙ is) in
      (there, e ∙ (ap (λ (k : Handle). Some (act.Offer there k q)) (ap (λ (k : Giving). k.handle) entry) ∙ ap (λ (k : Prefix). Some (act.Offer there g.handle k)) its))
  to_offer (Some (act.Counter h m)) e f = absurd (false≢true f)
  to_offer (Some (act.Accept h q)) e f = absurd (false≢true f)
  to_offer (Some (act.Decline h reason)) e f = absurd (false≢true f)

  by : (b : Bool) → is_offering a.act place ≡ b → OfferStands b g.offer x.view → HasOffered x.view p ⊎ IsAboutToOffer a g.handle p
  by true e s = inr (to_offer a.act refl e)
  by false e s = inl (subst (λ o. OfferStands false o x.view) is s)

-- ---- each offer of a reserved prefix

module _ (w : WorldState) (k : OffersStand w) (seat : Seat) (o : Offered) (r : IsReserved w seat o) (kept : IsKept seat.agent) (gives : Gives seat.core seat.agent) where
  -- an offer of the same prefix that is listed is this one
  same_offer : (talk : Option ℕ) → Contains w.offers (record { node = o.node; prefix = o.prefix; talk = talk }) → o.talk ≡ talk
  same_offer talk listed = ap (λ (q : Offered). q.talk) (k.once o (record { node = o.node; prefix = o.prefix; talk = talk }) r.listed listed refl refl)

  offered_on : (side : Side) (h : Handle) (x : SessionState) → IsOwnSession seat.core.sessions h side x → OffersIn seat.agent side h o.prefix → HasOffered x.view o.prefix ⊎ IsAboutToOffer seat.agent h o.prefix → IsOfferedOn w seat o
  offered_on side h x own offers last =
      let l = k.offered o.node seat r.here r.present side h o.prefix offers x own in
      record {
        side = side;
        handle = h;
        session = x;
        own = own;
        offers = offers;
        place = l.place;
        talk = l.talk;
        is = same_offer (Some l.place) l.listed;
        stands = l.stands;
        ends = l.ends;
        last = last;
      }

  returns : IsReturnOf seat.agent.back o.prefix → IsOfferedOn w seat o ⊎ IsUnsent seat o
  returns f = by f.return.session refl where
    by : (s : Option Handle) → f.return.session ≡ s → IsOfferedOn w seat o ⊎ IsUnsent seat o
    by (Some h) e =
        let g = gives.back f.return h f.is e in
        inl
        (offered_on Near h g.session g.own (in_return refl f.return f.is e f.prefix) (inl (subst (λ (p : Prefix). HasOffered g.session.view p) f.prefix g.offer)))
    by None e =
        let unsent : unsent_of seat.agent.back ≡ Some o.prefix
        = ap unsent_of f.is ∙ (ap (λ (s : Option Handle). unsent_of (Some (record f.return { session = s }))) e ∙ ap (λ (p : Prefix). Some p) f.prefix) in
        inr (record { none = same_offer None (k.unsent o.node seat r.here o.prefix unsent); unsent = unsent })

  gives_it : IsEntryOffer seat.agent.giving o.prefix → IsOfferedOn w seat o ⊎ IsUnsent seat o
  gives_it f =
      let g = gives.entries f.place f.entry f.at in
      inl
      (offered_on Far f.entry.handle g.session g.own (in_entry refl f.place f.entry f.at refl f.offer)
      (last_offer seat.agent f.place f.entry g.session o.prefix kept f.at f.offer g.offer))

  each_stands : IsOfferedOn w seat o ⊎ IsUnsent seat o
  each_stands = by (is_offered seat.agent o.prefix kept r.reserved) where
    by : IsReturnOf seat.agent.back o.prefix ⊎ IsEntryOffer seat.agent.giving o.prefix → IsOfferedOn w seat o ⊎ IsUnsent seat o
    by (inl f) = returns f
    by (inr f) = gives_it f

-- ---- one prefix at an end

far_near : {A : Type 0} → Far ≡ Near → A
far_near e = absurd (cc)

near_far : {A : Type 0} → Near ≡ Far → A
near_far e = absurd (cc)

-- what an agent offers in one session is one prefix
one_prefix : (n : NodeState) (a : AgentState) (side : Side) (h : Handle) (p q : Prefix) → Gives n a → OffersIn a side h p → OffersIn a side h q → p ≡ q
one_prefix n a side h p q k (in_entry far i g at same offer) (in_entry also j f there alike offers) =
    let place : i ≡ j = k.apart i j g f at there (same ∙ sym alike) in
    let entry : g ≡ f = same_Some g f (sym at ∙ (ap (slice_get a.giving) place ∙ there)) in
    same_Some p q (sym offer ∙ (ap (λ (e : Giving). e.offer) entry ∙ offers))
one_prefix n a side h p q k (in_entry far i g at same offer) (in_return near r is sent prefix) = far_near (sym far ∙ near)
one_prefix n a side h p q k (in_return near r is sent prefix) (in_entry far i g at same offer) = near_far (sym near ∙ far)
one_prefix n a side h p q k (in_return near r is sent prefix) (in_return also v there handed given) =
    sym prefix ∙ (ap (λ (e : Return). e.prefix) (same_Some r v (sym is ∙ there)) ∙ given)

one_end : (w : WorldState) (seat : Seat) (o p : Offered) (x : IsOfferedOn w seat o) (y : IsOfferedOn w seat p) → IsBoundedNode seat.core → Gives seat.core seat.agent → o.node ≡ p.node → x.place ≡ y.place → x.side ≡ y.side → o ≡ p
one_end w seat o p x y sound gives node place side = same o p node its (x.is ∙ (ap Some place ∙ sym y.is)) where
  talk : x.talk ≡ y.talk
  talk = same_Some x.talk y.talk (sym x.stands ∙ (ap (slice_get w.streams) place ∙ y.stands))

  ends : end_of o.node x.session.stream ≡ end_of p.node y.session.stream
  ends =
      same_Some (end_of o.node x.session.stream) (end_of p.node y.session.stream)
      (sym x.ends ∙ (ap (λ (t : StreamState). end_at t x.side) talk ∙ (ap (end_at y.talk) side ∙ y.ends)))

  handles : x.handle ≡ y.handle
  handles =
      (one_handle seat.core.sessions x.handle y.handle x.session y.session x.own.at y.own.at
      ((calls_in_order seat.core.sessions sound.sessions).streams x.handle.place y.handle.place x.session y.session (state_slot seat.core.sessions x.handle x.session x.own.at)
      (state_slot seat.core.sessions y.handle y.session y.own.at) (ap (λ (e : StreamEnd). e.number) ends))).0

  its : o.prefix ≡ p.prefix
  its =
      one_prefix seat.core seat.agent y.side y.handle o.prefix p.prefix gives (subst (λ (h : Handle). OffersIn seat.agent y.side h o.prefix) handles (subst (λ (z : Side). OffersIn seat.agent z x.handle o.prefix) side x.offers)) y.offers

  same : (a b : Offered) → a.node ≡ b.node → a.prefix ≡ b.prefix → a.talk ≡ b.talk → a ≡ b
  same a b e f g =
      let first : record { node = a.node; prefix = a.prefix; talk = a.talk } ≡ record { node = b.node; prefix = a.prefix; talk = a.talk } = ap (λ (n : ℕ). record { node = n; prefix = a.prefix; talk = a.talk }) e in
      let second : record { node = b.node; prefix = a.prefix; talk = a.talk } ≡ record { node = b.node; prefix = b.prefix; talk = a.talk } = ap (λ (n : Prefix). record { node = b.node; prefix = n; talk = a.talk }) f in
      let third : record { node = b.node; prefix = b.prefix; talk = a.talk } ≡ record { node = b.node; prefix = b.prefix; talk = b.talk } = ap (λ (n : Option ℕ). record { node = b.node; prefix = b.prefix; talk = n }) g in
      first ∙ (second ∙ third)

-- ---- networks

pub reserved_are_offered : AgentsAreKept → AgentsGive → ((s : Setting) (w : WorldState) → IsReached s w → OfEachNode (λ node n. IsBoundedNode n) w) → OffersAreKnown → ReservedAreOffered
reserved_are_offered kept gives sound known s w r = record {
  each = λ seat o it. each_stands w (known s w r) seat o it (kept s w r o.node seat it.here) (gives s w r o.node seat it.here);
  one = λ seat o p x y here node place side. one_end w seat o p x y (sound s w r o.node seat here) (gives s w r o.node seat here) node place side;
}
