-- One entry of the agent is replaced, in the same session.
use Rattle.std.proofs.Common.{◌≡◌, ◌≢◌, ◌⊎◌, refl, sym, ap, ◌∙◌, inl, inr, ℕ, List, Some, slice_get, slice_set}
use Rattle.grasp_agent.specs.States.{AgentState}
use Rattle.grasp_agent.specs.declared.giving.Giving.{Giving}
use Rattle.grasp_model_node.specs.Node.{NodeState}
use Rattle.grasp_session.specs.Messages.{Side}
use Rattle.grasp_session.specs.Sessions.{SessionState}
use Rattle.grasp_types.specs.Prefix.{AddressBlock as Prefix}
use Rattle.grasp_types.specs.declared.session.Handle.{Handle}
use Rattle.grasp_laws_agents.proofs.Entries.{some_is, set_back, set_on}
use Rattle.grasp_laws_agents.specs.Giving.{IsOpenOffer, IsOwnSession, IsOffersSession, of_entry, of_return, Gives}

module _ (a b : AgentState) (place : ℕ) (g v : Giving) (here : slice_get a.giving place ≡ Some g) (handle : v.handle ≡ g.handle) (set : b.giving ≡ slice_set a.giving place v) where
  -- an entry is the new one, or was there
  pub entry_was : (i : ℕ) (f : Giving) → slice_get b.giving i ≡ Some f → ((i ≡ place) × (v ≡ f)) ⊎ ((i ≢ place) × (slice_get a.giving i ≡ Some f))
  entry_was i f at = set_back a.giving place v i f (ap (λ (l : List Giving). slice_get l i) (sym set) ∙ at)

  -- with its handle
  handle_was : (i : ℕ) (f : Giving) → slice_get b.giving i ≡ Some f → (h : Giving) × (slice_get a.giving i ≡ Some h) × (h.handle ≡ f.handle)
  handle_was i f at = by_case (entry_was i f at) where
    by_case : ((i ≡ place) × (v ≡ f)) ⊎ ((i ≢ place) × (slice_get a.giving i ≡ Some f)) → (h : Giving) × (slice_get a.giving i ≡ Some h) × (h.handle ≡ f.handle)
    by_case (inl c) = (g, ap (slice_get a.giving) c.0 ∙ here, sym handle ∙ ap (λ (u : Giving). u.handle) c.1)
    by_case (inr c) = (f, c.1, refl)

  -- each that was there is there, with its handle
  entry_on : (i : ℕ) (f : Giving) → slice_get a.giving i ≡ Some f → (h : Giving) × (slice_get b.giving i ≡ Some h) × (h.handle ≡ f.handle)
  entry_on i f at = by_case (set_on a.giving place v i f at) where
    now : (h : Giving) → slice_get (slice_set a.giving place v) i ≡ Some h → slice_get b.giving i ≡ Some h
    now h s = ap (λ (l : List Giving). slice_get l i) set ∙ s

    by_case : ((i ≡ place) × (slice_get (slice_set a.giving place v) i ≡ Some v)) ⊎ ((i ≢ place) × (slice_get (slice_set a.giving place v) i ≡ Some f))
        → (h : Giving) × (slice_get b.giving i ≡ Some h) × (h.handle ≡ f.handle)
    by_case (inl c) = (v, now v c.1, handle ∙ ap (λ (u : Giving). u.handle) (some_is g f (sym (ap (slice_get a.giving) c.0 ∙ here) ∙ at)))
    by_case (inr c) = (f, now f c.1, refl)

  pub still_apart : (n : NodeState) → Gives n a → (i j : ℕ) (f h : Giving) → slice_get b.giving i ≡ Some f → slice_get b.giving j ≡ Some h → f.handle ≡ h.handle → i ≡ j
  still_apart n k i j f h at there same =
      let c = handle_was i f at in
      let d = handle_was j h there in
      k.apart i j c.0 d.0 c.1 d.1 (c.2 ∙ (same ∙ sym d.2))

  pub still_live : (n : NodeState) → b.back ≡ a.back → Gives n a → (h : Handle) (side : Side) (y : SessionState) (p : Prefix) → IsOwnSession n.sessions h side y → IsOpenOffer y.view p
      → IsOffersSession b side h
  still_live n back k h side y p has pending = by_entry (k.live h side y p has pending) where
    by_entry : IsOffersSession a side h → IsOffersSession b side h
    by_entry (of_entry far i f at same) = let c = entry_on i f at in of_entry far i c.0 c.1 (c.2 ∙ same)
    by_entry (of_return near r is same) = of_return near r (back ∙ is) same
