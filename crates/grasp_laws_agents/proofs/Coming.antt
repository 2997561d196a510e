-- A session of the agent begins: one that a peer began.
use Rattle.std.proofs.Common.{◌≡◌, ◌≢◌, ◌⊎◌, refl, sym, ap, ◌∙◌, subst, inl, inr, ℕ, true, List, [], ◌∷◌, ◌++◌, None, Some, Contains, slice_get, slice_set}
use Rattle.std.proofs.lemmas.Bool.{true≢false}
use Rattle.grasp_agent.specs.States.{AgentState, want_session}
use Rattle.grasp_agent.specs.declared.back.Return.{Return}
use Rattle.grasp_agent.specs.declared.giving.Giving.{Giving}
use Rattle.grasp_model_node.specs.Node.{NodeState}
use Rattle.grasp_laws_session.proofs.Runs.{some_state}
use Rattle.grasp_session.specs.Conversation.{has_offered}
use Rattle.grasp_session.specs.Made.{IsFresh}
use Rattle.grasp_session.specs.Messages.{Side, Near, Far}
use Rattle.grasp_session.specs.Says.{IsAt}
use Rattle.grasp_session.specs.Sessions.{SessionState, session_at, with_owner}
use Rattle.grasp_session.specs.Transcript.{Transcript, known}
use Rattle.grasp_types.specs.Prefix.{AddressBlock as Prefix}
use Rattle.grasp_types.specs.declared.session.Handle.{Handle}
use Rattle.grasp_laws_agents.proofs.Entries.{last_back, last_on, one_last}
use Rattle.grasp_laws_agents.proofs.Places.{one_there, set_here}
use Rattle.grasp_laws_agents.proofs.Sides.{KeepKinds, fresh_kind, kinds_new}
use Rattle.grasp_laws_agents.proofs.Standing.{same_apart, same_back, same_entry, same_has, same_quiet, same_unsent, untaken_apart, Moved, PlainEntry, rests, idle_entry, own_was, plain_elsewhere, want_elsewhere, back_elsewhere, set_streams, quiet}
use Rattle.grasp_laws_agents.specs.Giving.{IsOpenOffer, IsOwnSession, EntryStands, WantStands, ReturnStands, OffersIn, in_entry, in_return, IsOffersSession, of_entry, of_return, Gives}
use Rattle.grasp_laws_agents.specs.OfferLaws.{WasOffered, was_there}

-- a request alone offers nothing
pub fresh_far : (v : Transcript) → IsFresh v → v.role ≡ Far
fresh_far v f = ap (λ (w : Transcript). w.role) f.fresh

fresh_closed : (v : Transcript) (p : Prefix) → IsFresh v → ¬ IsOpenOffer v p
fresh_closed v p f o = true≢false (sym o.offered.made ∙ ap (λ (w : Transcript). has_offered w.role (known w)) f.fresh)

-- the session at this handle, which no agent had taken, is the agent's now
module _ (n after : NodeState) (a b : AgentState) (h : Handle) (x : SessionState) (k : Gives n a) (idle : a.act ≡ None) (at : IsAt n.sessions h.place x) (number : x.number ≡ h.number)
    (free : x.owner ≡ 0) (fresh : IsFresh x.view) (set : after.sessions.places ≡ slice_set n.sessions.places h.place (Some (with_owner x 1))) (gone : after.sessions.gone ≡ n.sessions.gone)
    (pool : b.pool ≡ a.pool) (want : b.want ≡ a.want) (back : b.back ≡ a.back) (act : b.act ≡ a.act) where
  abbrev new : SessionState
  new = with_owner x 1

  own : IsOwnSession after.sessions h Far new
  own = record { at = set_here n.sessions after.sessions x new h set at number; owner = refl; role = fresh_far x.view fresh }

  came_want : (l : Handle) → want_session b.want ≡ Some l → WantStands after.sessions b l
  came_want l f =
      let s = k.want l (ap want_session (sym want) ∙ f) in
      want_elsewhere n.sessions after.sessions h.place (Some new) set a b l s (untaken_apart n.sessions h l Near x s.session at free s.own) (act ∙ idle)

  came_back : (r : Return) (l : Handle) → b.back ≡ Some r → r.session ≡ Some l → ReturnStands after.sessions l r.prefix
  came_back r l is f =
      let s = same_back n a b back k r l is f in
      back_elsewhere n.sessions after.sessions h.place (Some new) set l r.prefix s (untaken_apart n.sessions h l Near x s.session at free s.own)

  came_old : (place : ℕ) (g : Giving) → slice_get a.giving place ≡ Some g → PlainEntry after.sessions g
  came_old place g there =
      let s = idle_entry n a place g k idle there in
      plain_elsewhere n.sessions after.sessions h.place (Some new) set g s (untaken_apart n.sessions h g.handle Far x s.session at free s.own)

  -- an open offer is one of before
  came_live : (l : Handle) (side : Side) (y : SessionState) (p : Prefix) → IsOwnSession after.sessions l side y → IsOpenOffer y.view p → IsOffersSession a side l
  came_live l side y p has pending = by_case (own_was n.sessions after.sessions h.place (Some new) set l side y has) where
    by_case : ((l.place ≡ h.place) × (Some new ≡ Some y)) ⊎ ((l.place ≢ h.place) × IsOwnSession n.sessions l side y) → IsOffersSession a side l
    by_case (inl c) =
        let same : new ≡ y = some_state new y c.1 in
        absurd (fresh_closed x.view p fresh (subst (λ (u : SessionState). IsOpenOffer u.view p) (sym same) pending))
    by_case (inr c) = k.live l side y p c.1 pending

  came_kinds : KeepKinds after.sessions
  came_kinds = kinds_new n.sessions after.sessions h.place new set gone (fresh_kind x.view fresh) k.kinds

  came_left : (y : SessionState) → Contains after.sessions.gone y → Contains n.sessions.gone y
  came_left y has = subst (λ (l : List SessionState). Contains l y) gone has

  came_streams : (l : Handle) (u y : SessionState) → session_at n.sessions l ≡ Some u → session_at after.sessions l ≡ Some y → y.stream ≡ u.stream
  came_streams =
      set_streams n.sessions after.sessions h.place (Some new) set
      (λ u y there same. ap (λ (s : SessionState). s.stream) (sym (some_state new y same)) ∙ ap (λ (s : SessionState). s.stream) (one_there n.sessions h.place x u at there))

  -- where the agent has no room for it, that is all
  pub unlisted : b.giving ≡ a.giving → Moved n after a b
  unlisted giving = record {
    gives = record {
      want = came_want;
      entries = λ place g f. rests after.sessions b place g (act ∙ idle) (came_old place g (same_entry a b giving place g f));
      back = came_back;
      apart = same_apart n a b giving k;
      kinds = came_kinds;
      live = λ l side y p has pending. same_has a b giving back l side (came_live l side y p has pending);
    };
    moves = same_quiet n after a b came_streams pool giving back (λ y p pending has. came_left y has);
  }

  abbrev entry : Giving
  entry = record { handle = h; offer = None; first = true }

  -- else it comes last
  module _ (giving : b.giving ≡ a.giving ++ record { handle = h; offer = None; first = true } ∷ []) where
    was : (i : ℕ) (g : Giving) → slice_get b.giving i ≡ Some g → slice_get (a.giving ++ entry ∷ []) i ≡ Some g
    was i g f = ap (λ (l : List Giving). slice_get l i) (sym giving) ∙ f

    listed_entry : (i : ℕ) (g : Giving) → slice_get b.giving i ≡ Some g → EntryStands after.sessions b i g
    listed_entry i g f = by_case (last_back a.giving entry i g (was i g f)) where
      by_case : (slice_get a.giving i ≡ Some g) ⊎ ((slice_get a.giving i ≡ None) × (entry ≡ g)) → EntryStands after.sessions b i g
      by_case (inl c) = rests after.sessions b i g (act ∙ idle) (came_old i g c)
      by_case (inr c) =
          subst (EntryStands after.sessions b i) c.1
          (rests after.sessions b i entry (act ∙ idle) (record { session = new; own = own; offer = λ p. fresh_closed x.view p fresh }))

    -- the session of the new entry isn't that of another entry
    new_apart : (i : ℕ) (g : Giving) → slice_get a.giving i ≡ Some g → g.handle ≡ h → ⊥
    new_apart i g f same = let s = idle_entry n a i g k idle f in untaken_apart n.sessions h g.handle Far x s.session at free s.own (ap (λ (u : Handle). u.place) same)

    listed_apart : (i j : ℕ) (g l : Giving) → slice_get b.giving i ≡ Some g → slice_get b.giving j ≡ Some l → g.handle ≡ l.handle → i ≡ j
    listed_apart i j g l f s same = by_case (last_back a.giving entry i g (was i g f)) (last_back a.giving entry j l (was j l s)) where
      by_case : (slice_get a.giving i ≡ Some g) ⊎ ((slice_get a.giving i ≡ None) × (entry ≡ g)) → (slice_get a.giving j ≡ Some l) ⊎ ((slice_get a.giving j ≡ None) × (entry ≡ l)) → i ≡ j
      by_case (inl c) (inl d) = k.apart i j g l c d same
      by_case (inl c) (inr d) = absurd (new_apart i g c (same ∙ ap (λ (u : Giving). u.handle) (sym d.1)))
      by_case (inr c) (inl d) = absurd (new_apart j l d (sym same ∙ ap (λ (u : Giving). u.handle) (sym c.1)))
      by_case (inr c) (inr d) = one_last a.giving entry i j g l (was i g f) (was j l s) c.0 d.0

    listed_offers : (side : Side) (l : Handle) (p : Prefix) → OffersIn b side l p → WasOffered n a b side l p
    listed_offers side l p (in_entry far i g f same offer) = by_case (last_back a.giving entry i g (was i g f)) where
      by_case : (slice_get a.giving i ≡ Some g) ⊎ ((slice_get a.giving i ≡ None) × (entry ≡ g)) → WasOffered n a b side l p
      by_case (inl c) = was_there (in_entry far i g c same offer)
      by_case (inr c) = let clash : None ≡ Some p = ap (λ (u : Giving). u.offer) c.1 ∙ offer in absurd (cc)
    listed_offers side l p (in_return near r is same offer) = was_there (in_return near r (sym back ∙ is) same offer)

    listed_has : (l : Handle) (side : Side) → IsOffersSession a side l → IsOffersSession b side l
    listed_has l side (of_entry far i g f same) = of_entry far i g (ap (λ (u : List Giving). slice_get u i) giving ∙ last_on a.giving entry i g f) same
    listed_has l side (of_return near r is same) = of_return near r (back ∙ is) same

    pub listed : Moved n after a b
    listed = record {
      gives = record {
        want = came_want;
        entries = listed_entry;
        back = came_back;
        apart = listed_apart;
        kinds = came_kinds;
        live = λ l side y p has pending. listed_has l side (came_live l side y p has pending);
      };
      moves = quiet n after a b (record { streams = came_streams; pool = pool; offered = listed_offers; unsent = same_unsent a b back; left = λ y p pending has. came_left y has });
    }
