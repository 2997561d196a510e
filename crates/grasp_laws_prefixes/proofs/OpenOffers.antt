-- An open offer of a session that was made for the agent of prefixes, in any life, is listed for the stream of that session, or was settled.
use Rattle.std.proofs.Common.{◌≡◌, refl, sym, subst, ℕ, Bool, true, false, inl, inr, ◌⊎◌, Contains, Some}
use Rattle.grasp_laws_session.proofs.Trailing.{trails_legal}
use Rattle.grasp_session.proofs.Facts.{at_handle}
use Rattle.grasp_session.specs.Conversation.{strip, IsLegal}
use Rattle.grasp_session.specs.Runs.{WasMade}
use Rattle.grasp_session.specs.Says.{IsAt}
use Rattle.grasp_session.specs.Sessions.{SessionState}
use Rattle.grasp_session.specs.Transcript.{known}
use Rattle.grasp_types.specs.Prefix.{AddressBlock as Prefix}
use Rattle.grasp_types.specs.declared.session.Handle.{Handle}
use Rattle.grasp_model_network.specs.Runs.{IsReached}
use Rattle.grasp_model_network.specs.Setting.{Setting}
use Rattle.grasp_model_network.specs.World.{Seat, WorldState, seat_at, is_present}
use Rattle.grasp_laws_agents.specs.Giving.{IsOpenOffer, IsOwnSession}
use Rattle.grasp_laws_prefixes.proofs.Givers.{Gave, by_offer, by_gone, own_live}
use Rattle.grasp_laws_prefixes.proofs.OwnSessions.{IsTalkOf, own_talk, own_view}
use Rattle.grasp_laws_prefixes.proofs.Standing.{IsOfferedOn, WasSettledOn, OffersAreKnown}
use Rattle.grasp_laws_prefixes.specs.Grounds.{Grounds}

-- it is listed for the stream, or was settled
abbrev pub IsKnownOn : WorldState → ℕ → SessionState → Prefix → Type 0
IsKnownOn w node x p = IsOfferedOn w node x.view.role x.stream p ⊎ WasSettledOn w node x.view.role x.stream p

module _ (l : Grounds) (s : Setting) (w : WorldState) (r : IsReached s w) (node : ℕ) (seat : Seat) (here : seat_at w node ≡ Some seat) (x : SessionState) (p : Prefix) (own : x.owner ≡ 1) (is_open : IsOpenOffer x.view p) where
  -- what a live session knows is in order
  pub live_legal : (place : ℕ) → IsAt seat.core.sessions place x → IsLegal (known x.view)
  live_legal place at = from (own_talk l s w r node seat here h x.view.role x mine) where
    h : Handle
    h = record { place = place; number = x.number }

    mine : IsOwnSession seat.core.sessions h x.view.role x
    mine = record { at = at_handle seat.core.sessions h x at refl; owner = own; role = refl }

    from : IsTalkOf w node x x.view.role → IsLegal (known x.view)
    from t = trails_legal x.view.role (known x.view) (strip t.talk.said) (l.in_order s w r t.place t.talk t.stands t.negotiation).legal (own_view l s w r node x x.view.role t).trails

  -- and it is one in which the agent offers the prefix
  pub live_gave : (place : ℕ) → IsAt seat.core.sessions place x → Gave seat x p
  live_gave place at = own_live l s w r node seat here x p ((l.owned s w r node seat here place x at).own own).1 (live_legal place at) is_open place at own

  module _ (k : OffersAreKnown w) where
    gone_known : Contains seat.core.sessions.gone x → IsKnownOn w node x p
    gone_known gone = from (k.gone node seat here x p gone own is_open) where
      from : (IsOfferedOn w node x.view.role x.stream p × Contains seat.agent.pool.doubtful p) ⊎ WasSettledOn w node x.view.role x.stream p → IsKnownOn w node x p
      from (inl listed) = inl listed.0
      from (inr settled) = inr settled

    gave_known : is_present w node ≡ true → Gave seat x p → IsKnownOn w node x p
    gave_known present (by_offer side h o mine) = inl (subst (λ i. IsOfferedOn w node i x.stream p) (sym mine.role) (k.offered node seat here present side h p o x mine))
    gave_known present (by_gone gone owner) = gone_known gone

    pub open_known : WasMade seat.core.sessions x → IsKnownOn w node x p
    open_known (inr gone) = gone_known gone
    open_known (inl live) = by_present (is_present w node) refl where
      by_present : (b : Bool) → is_present w node ≡ b → IsKnownOn w node x p
      by_present true is = gave_known is (live_gave live.0 live.1)
      by_present false is = k.ended node seat here is live.0 x p live.1 own is_open
