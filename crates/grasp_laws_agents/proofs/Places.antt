-- The live sessions of a table, by their handles, where one place is set.
use Rattle.std.proofs.Common.{◌≡◌, ◌≢◌, refl, sym, ap, ◌∙◌, subst, ℕ, ◌<◌, ◌==◌, ◌⊎◌, inl, inr, Bool, true, false, cond, List, length, Option, None, Some, slice_set, slice_index_or}
use Rattle.std.proofs.lemmas.Bool.Decides.{eqb_tells}
use Rattle.std.proofs.lemmas.List.{get_or-set_same, get_or-set_other}
use Rattle.grasp_laws_node.proofs.Meaning.Acts.{number_at}
use Rattle.grasp_laws_session.proofs.Runs.{some_state, at_below, set_some}
use Rattle.grasp_session.proofs.Facts.{at_handle}
use Rattle.grasp_session.proofs.Tables.{state_slot}
use Rattle.grasp_session.specs.Says.{IsAt}
use Rattle.grasp_session.specs.Sessions.{SessionState, Sessions, if_number, if_owner, session_at, session_owned}
use Rattle.grasp_types.specs.declared.session.Handle.{Handle}

-- a session with its owner is at its handle
pub owned_at : (z : Sessions) (owner : ℕ) (h : Handle) (x : SessionState) → session_owned z owner h ≡ Some x → session_at z h ≡ Some x
owned_at z owner h x e = by_state (session_at z h) refl e where
  by_test : (y : SessionState) (b : Bool) → cond b (Some y) None ≡ Some x → Some y ≡ Some x
  by_test y true f = f
  by_test y false f = absurd (cc)

  by_state : (o : Option SessionState) → session_at z h ≡ o → if_owner (λ (y : SessionState). y.owner) owner o ≡ Some x → session_at z h ≡ Some x
  by_state None f g = absurd (cc)
  by_state (Some y) f g = f ∙ by_test y (y.owner == owner) g

pub same_handle : (h k : Handle) → h.place ≡ k.place → h.number ≡ k.number → h ≡ k
same_handle h k e f =
    let a : record { place = h.place; number = h.number } ≡ record { place = k.place; number = h.number } = ap (λ (p : ℕ). record { place = p; number = h.number }) e in
    let b : record { place = k.place; number = h.number } ≡ record { place = k.place; number = k.number } = ap (λ (n : ℕ). record { place = k.place; number = n }) f in
    a ∙ b

-- at most one session is at a place
pub one_there : (z : Sessions) (p : ℕ) (x y : SessionState) → IsAt z p x → IsAt z p y → x ≡ y
one_there z p x y at there = some_state x y (sym at ∙ there)

pub one_handle : (z : Sessions) (h k : Handle) (x y : SessionState) → session_at z h ≡ Some x → session_at z k ≡ Some y → h.place ≡ k.place → (h ≡ k) × (x ≡ y)
one_handle z h k x y e f g =
    let same : x ≡ y = one_there z h.place x y (state_slot z h x e) (subst (λ p. IsAt z p y) (sym g) (state_slot z k y f)) in
    (same_handle h k g (sym (number_at z h x e) ∙ (ap (λ (u : SessionState). u.number) same ∙ number_at z k y f)), same)

-- ---- a place is set

pub set_other : (z w : Sessions) (p : ℕ) (v : Option SessionState) → w.places ≡ slice_set z.places p v → (h : Handle) → h.place ≢ p → session_at w h ≡ session_at z h
set_other z w p v e h n =
    ap (λ (l : List (Option SessionState)). if_number (λ (y : SessionState). y.number) h.number (slice_index_or l h.place None)) e
    ∙ ap (if_number (λ (y : SessionState). y.number) h.number) (get_or-set_other z.places p h.place v None n)

pub new_here : (z w : Sessions) (y : SessionState) (h : Handle) → w.places ≡ slice_set z.places h.place (Some y) → h.place < length z.places → y.number ≡ h.number → session_at w h ≡ Some y
new_here z w y h e below n =
    at_handle w h y (ap (λ (l : List (Option SessionState)). slice_index_or l h.place None) e ∙ get_or-set_same z.places h.place (Some y) None below) n

pub set_here : (z w : Sessions) (x y : SessionState) (h : Handle) → w.places ≡ slice_set z.places h.place (Some y) → IsAt z h.place x → y.number ≡ h.number → session_at w h ≡ Some y
set_here z w x y h e at n = new_here z w y h e (at_below z.places h.place x at) n

-- a session that is live then is the one that was set, or was live
pub set_back : (z w : Sessions) (p : ℕ) (v : Option SessionState) → w.places ≡ slice_set z.places p v → (h : Handle) (y : SessionState) → session_at w h ≡ Some y
    → ((h.place ≡ p) × (v ≡ Some y)) ⊎ ((h.place ≢ p) × (session_at z h ≡ Some y))
set_back z w p v e h y at = by_place (eqb_tells h.place p) where
  by_place : (((h.place == p) ≡ true) × (h.place ≡ p)) ⊎ (((h.place == p) ≡ false) × (h.place ≢ p)) → ((h.place ≡ p) × (v ≡ Some y)) ⊎ ((h.place ≢ p) × (session_at z h ≡ Some y))
  by_place (inl i) = inl (i.1, here (set_some z.places p v h.place y (sym (ap (λ (l : List (Option SessionState)). slice_index_or l h.place None) e) ∙ state_slot w h y at))) where
    here : ((h.place ≡ p) × (v ≡ Some y)) ⊎ ((h.place ≢ p) × (slice_index_or z.places h.place None ≡ Some y)) → v ≡ Some y
    here (inl j) = j.1
    here (inr j) = absurd (j.0 i.1)
  by_place (inr i) = inr (i.1, sym (set_other z w p v e h i.1) ∙ at)
