-- A session that the agent requested begins: that of its want.
use Rattle.std.proofs.Common.{◌≡◌, ◌≢◌, ◌⊎◌, sym, ap, ◌∙◌, subst, inl, inr, ℕ, ◌<◌, List, length, None, Some, Contains, slice_get, slice_set, slice_index_or}
use Rattle.grasp_laws_agent.specs.Moves.{starts, Effect}
use Rattle.grasp_agent.specs.States.{AgentState, want_session}
use Rattle.grasp_agent.specs.Values.{returned_in}
use Rattle.grasp_agent.specs.declared.back.Return.{Return}
use Rattle.grasp_agent.specs.declared.giving.Giving.{Giving}
use Rattle.grasp_laws_node.proofs.Meaning.Acts.{number_at}
use Rattle.grasp_model_node.specs.Node.{NodeState}
use Rattle.grasp_laws_session.proofs.Runs.{some_state}
use Rattle.grasp_session.specs.Messages.{Side, Near, Far}
use Rattle.grasp_session.specs.Says.{IsAt}
use Rattle.grasp_session.specs.Sessions.{SessionState, session_at}
use Rattle.grasp_session.specs.Transcript.{request_of}
use Rattle.grasp_types.specs.Prefix.{AddressBlock as Prefix}
use Rattle.grasp_types.specs.declared.session.Handle.{Handle}
use Rattle.grasp_laws_agents.proofs.Places.{same_handle, new_here}
use Rattle.grasp_laws_agents.proofs.Sides.{none_offered, kinds_new}
use Rattle.grasp_laws_agents.proofs.Standing.{same_apart, same_back, same_entry, same_has, same_quiet, empty_apart, Moved, none_accepts, rests, idle_entry, own_was, plain_elsewhere, want_elsewhere, back_elsewhere, set_streams}
use Rattle.grasp_laws_agents.specs.Giving.{IsOpenOffer, IsOwnSession, EntryStands, WantStands, ReturnStands, KeepsKind, IsOffersSession, Gives}

-- this session begins, at an empty place
pub record Begins (n after : NodeState) (h : Handle) (new : SessionState) : Type 0 where
  pub below : h.place < length n.sessions.places
  pub empty : slice_index_or n.sessions.places h.place None ≡ None
  pub number : new.number ≡ h.number
  pub owner : new.owner ≡ 1
  pub near : new.view.role ≡ Near
  pub kind : KeepsKind new.view.role new.view
  pub set : after.sessions.places ≡ slice_set n.sessions.places h.place (Some new)
  pub gone : after.sessions.gone ≡ n.sessions.gone

module _ (n after : NodeState) (a b : AgentState) (h : Handle) (new : SessionState) (k : Gives n a) (idle : a.act ≡ None) (s : Begins n after h new) (giving : b.giving ≡ a.giving) (act : b.act ≡ a.act) where
  pub begun_own : IsOwnSession after.sessions h Near new
  begun_own = record { at = new_here n.sessions after.sessions new h s.set s.below s.number; owner = s.owner; role = s.near }

  -- where the want, or the return, stays, its session is another one
  pub begun_want : b.want ≡ a.want → (l : Handle) → want_session b.want ≡ Some l → WantStands after.sessions b l
  begun_want want l f =
      let w = k.want l (ap want_session (sym want) ∙ f) in
      want_elsewhere n.sessions after.sessions h.place (Some new) s.set a b l w (empty_apart n.sessions h.place l Near w.session s.empty w.own) (act ∙ idle)

  pub begun_back : b.back ≡ a.back → (r : Return) (l : Handle) → b.back ≡ Some r → r.session ≡ Some l → ReturnStands after.sessions l r.prefix
  begun_back back r l is f =
      let w = same_back n a b back k r l is f in
      back_elsewhere n.sessions after.sessions h.place (Some new) s.set l r.prefix w (empty_apart n.sessions h.place l Near w.session s.empty w.own)

  begun_entry : (place : ℕ) (g : Giving) → slice_get b.giving place ≡ Some g → EntryStands after.sessions b place g
  begun_entry place g f =
      let e = idle_entry n a place g k idle (same_entry a b giving place g f) in
      rests after.sessions b place g (act ∙ idle) (plain_elsewhere n.sessions after.sessions h.place (Some new) s.set g e (empty_apart n.sessions h.place g.handle Far e.session s.empty e.own))

  -- a session that is live then is this one, or was live
  begun_was : (l : Handle) (side : Side) (y : SessionState) → IsOwnSession after.sessions l side y → ((h ≡ l) × (new ≡ y)) ⊎ IsOwnSession n.sessions l side y
  begun_was l side y has = by_case (own_was n.sessions after.sessions h.place (Some new) s.set l side y has) where
    by_case : ((l.place ≡ h.place) × (Some new ≡ Some y)) ⊎ ((l.place ≢ h.place) × IsOwnSession n.sessions l side y) → ((h ≡ l) × (new ≡ y)) ⊎ IsOwnSession n.sessions l side y
    by_case (inl c) =
        let same : new ≡ y = some_state new y c.1 in
        inl (same_handle h l (sym c.0) (sym s.number ∙ (ap (λ (u : SessionState). u.number) same ∙ number_at after.sessions l y has.at)), same)
    by_case (inr c) = inr c.1

  pub begun_streams : (l : Handle) (u y : SessionState) → session_at n.sessions l ≡ Some u → session_at after.sessions l ≡ Some y → y.stream ≡ u.stream
  begun_streams = set_streams n.sessions after.sessions h.place (Some new) s.set (λ u y there same. nobody u there) where
    nobody : {A : Type 0} (u : SessionState) → IsAt n.sessions h.place u → A
    nobody u there = let clash : None ≡ Some u = sym s.empty ∙ there in absurd (cc)

  pub begun_left : (y : SessionState) (p : Prefix) → IsOpenOffer y.view p → Contains after.sessions.gone y → Contains n.sessions.gone y
  begun_left y p pending has = subst (λ (l : List SessionState). Contains l y) s.gone has

  pub begun_gives : ((l : Handle) → want_session b.want ≡ Some l → WantStands after.sessions b l) → ((r : Return) (l : Handle) → b.back ≡ Some r → r.session ≡ Some l → ReturnStands after.sessions l r.prefix)
      → ((p : Prefix) → IsOpenOffer new.view p → IsOffersSession b Near h) → ((l : Handle) (side : Side) → IsOffersSession a side l → IsOffersSession b side l) → Gives after b
  begun_gives want back here others = record {
    want = want;
    entries = begun_entry;
    back = back;
    apart = same_apart n a b giving k;
    kinds = kinds_new n.sessions after.sessions h.place new s.set s.gone s.kind k.kinds;
    live = live;
  } where
    live : (l : Handle) (side : Side) (y : SessionState) (p : Prefix) → IsOwnSession after.sessions l side y → IsOpenOffer y.view p → IsOffersSession b side l
    live l side y p has pending = by_case (begun_was l side y has) where
      by_case : ((h ≡ l) × (new ≡ y)) ⊎ IsOwnSession n.sessions l side y → IsOffersSession b side l
      by_case (inl c) =
          let is_near : side ≡ Near = sym has.role ∙ (ap (λ (u : SessionState). u.view.role) (sym c.1) ∙ s.near) in
          subst (IsOffersSession b side) c.0 (subst (λ u. IsOffersSession b u h) (sym is_near) (here p (subst (λ (u : SessionState). IsOpenOffer u.view p) (sym c.1) pending)))
      by_case (inr c) = others l side (k.live l side y p c pending)

-- the session of the want
module _ (n after : NodeState) (a b : AgentState) (h : Handle) (new : SessionState) (k : Gives n a) (idle : a.act ≡ None) (s : Begins n after h new) (asks : returned_in (request_of new.view).value ≡ None) (e : Effect a (starts h) b) where
  started_want : (l : Handle) → want_session b.want ≡ Some l → WantStands after.sessions b l
  started_want l f =
      let same : Some h ≡ Some l = sym (ap want_session e.5.2) ∙ f in
      let there : h ≡ l = cc in
      subst (WantStands after.sessions b) there
      (record { session = new; own = begun_own n after a b h new k idle s e.1 e.3; accept = none_accepts b h Near new.view (e.3 ∙ idle); asks = asks })

  pub started : Moved n after a b
  started = record {
    gives = begun_gives n after a b h new k idle s e.1 e.3 started_want (begun_back n after a b h new k idle s e.1 e.3 e.2)
        (λ p pending. absurd (none_offered new.view p s.near s.kind asks pending.offered)) (same_has a b e.1 e.2);
    moves = same_quiet n after a b (begun_streams n after a b h new k idle s e.1 e.3) e.0 e.1 e.2 (begun_left n after a b h new k idle s e.1 e.3);
  }
