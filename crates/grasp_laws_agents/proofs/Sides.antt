-- Who offers in the sessions of the agent: as one that requests by its request alone, and as a listener only where it wasn't asked to take a prefix back.
use Rattle.std.proofs.Common.{◌≡◌, ◌≢◌, ◌⊎◌, refl, sym, ap, ◌∙◌, subst, inl, inr, ℕ, true, List, ◌∷◌, Option, None, Some, is_some, Contains, slice_set, slice_index_or}
use Rattle.std.proofs.lemmas.Option.{none-some}
use Rattle.grasp_agent.specs.States.{AgentState}
use Rattle.grasp_agent.specs.Values.{length_value, returned_in}
use Rattle.grasp_cbor.specs.DataItem.{DataItem}
use Rattle.grasp_model_network.specs.Accepting.{offering_by}
use Rattle.grasp_laws_session.proofs.Runs.{some_state, set_some}
use Rattle.grasp_model_node.specs.Node.{NodeState}
use Rattle.grasp_session.proofs.Tables.{state_slot}
use Rattle.grasp_session.specs.Conversation.{has_offered}
use Rattle.grasp_session.specs.Made.{IsFresh}
use Rattle.grasp_session.specs.Messages.{Side, Near, Far}
use Rattle.grasp_session.specs.Runs.{WasMade}
use Rattle.grasp_session.specs.Sessions.{SessionState, Sessions, left, session_at}
use Rattle.grasp_session.specs.Transcript.{Transcript, SayEnd, SayStep, having_said, known, my_offer, request_of}
use Rattle.grasp_types.specs.Prefix.{AddressBlock as Prefix}
use Rattle.grasp_types.specs.declared.message.Verdict.{Verdict}
use Rattle.grasp_types.specs.declared.objective.Objective.{Objective}
use Rattle.grasp_types.specs.declared.session.Handle.{Handle}
use Rattle.grasp_laws_agents.proofs.Entries.{cons_cases}
use Rattle.grasp_laws_agents.proofs.GoingOn.{heard_alike, heard_offer, heard_offered}
use Rattle.grasp_laws_agents.proofs.Known.{step_offer, end_made, end_offer}
use Rattle.grasp_laws_agents.specs.Giving.{HasOffered, IsOffering, IsOwnSession, KeepsKind, Gives, offered_by}
use Rattle.grasp_laws_agents.specs.GoingOn.{OnlyHears, OwnGoOn}

-- a length gives back no prefix
pub length_plain : (n : ℕ) → returned_in (Some (length_value n)) ≡ None
unfolding returned_in
length_plain n = refl

-- ---- one transcript

abbrev given_back : Objective → Option Prefix
given_back o = returned_in o.value

-- a listener's request alone
pub fresh_kind : (v : Transcript) → IsFresh v → KeepsKind v.role v
fresh_kind v f = subst (λ (w : Transcript). KeepsKind w.role w) (sym f.fresh) (λ made. absurd (cc))

-- after messages of the other end, or an end from outside
heard_kind : (side : Side) (v w : Transcript) → OnlyHears v w → v.role ≡ side → KeepsKind side v → KeepsKind side w
heard_kind Far v w h role k = λ made.
    ap given_back (heard_alike v w h).request ∙ k (sym (subst (λ s. has_offered s (known w) ≡ has_offered s (known v)) role (heard_offered v w h)) ∙ made)
heard_kind Near v w h role k = λ p e. ap given_back (heard_alike v w h).request ∙ k p (sym (ap given_back (heard_offer v w h)) ∙ e)

-- after an end that it said
pub end_kind : (v : Transcript) (now : ℕ) (d : Verdict) → KeepsKind v.role v → KeepsKind v.role (having_said v now (SayEnd d))
end_kind v now d k = by_side v.role refl k where
  by_side : (side : Side) → v.role ≡ side → KeepsKind side v → KeepsKind side (having_said v now (SayEnd d))
  by_side Far e f = λ made. f (sym (subst (λ s. has_offered s (known (having_said v now (SayEnd d))) ≡ has_offered s (known v)) e (end_made v now d)) ∙ made)
  by_side Near e f = λ p g. f p (sym (ap given_back (end_offer v now d)) ∙ g)

-- after a step of the requester that gives nothing back
pub near_step : (v : Transcript) (now : ℕ) (value : DataItem) → v.role ≡ Near → returned_in (Some value) ≡ None → KeepsKind v.role (having_said v now (SayStep value))
near_step v now value near plain = subst (λ s. KeepsKind s (having_said v now (SayStep value))) (sym near) (λ p e. absurd (none-some p (sym (ap given_back (step_offer v now value) ∙ plain) ∙ e)))

-- after a step of a listener that wasn't asked to take a prefix back
pub far_step : (v : Transcript) (now : ℕ) (value : DataItem) → v.role ≡ Far → returned_in (request_of v).value ≡ None → KeepsKind v.role (having_said v now (SayStep value))
far_step v now value far plain = subst (λ s. KeepsKind s (having_said v now (SayStep value))) (sym far) (λ made. plain)

-- what one that requests has offered its request gives back
pub near_request : (v : Transcript) (p : Prefix) → v.role ≡ Near → KeepsKind v.role v → HasOffered v p → returned_in (request_of v).value ≡ Some p
near_request v p near k o = (subst (λ s. KeepsKind s v) near k) p (subst (λ s. offered_by s (my_offer v).value ≡ Some p) near o.offer)

-- one whose request gives nothing back offers nothing
pub none_offered : (v : Transcript) (p : Prefix) → v.role ≡ Near → KeepsKind v.role v → returned_in (request_of v).value ≡ None → ¬ HasOffered v p
none_offered v p near k asks o = none-some p (sym asks ∙ near_request v p near k o)

offers_by : (side : Side) (v : Transcript) (p : Prefix) → v.role ≡ side → KeepsKind v.role v → HasOffered v p → IsOffering v
offers_by Near v p e k o = ap (λ (r : Option Prefix). offering_by (is_some r)) (near_request v p e k o) ∙ sym e
offers_by Far v p e k o =
    ap (λ (r : Option Prefix). offering_by (is_some r)) ((subst (λ s. KeepsKind s v) e k) (subst (λ s. has_offered s (known v) ≡ true) e o.made)) ∙ sym e

-- ---- the sessions of a node

-- each that was made for the agent keeps to who offers in it
abbrev pub KeepKinds : Sessions → Type 0
KeepKinds z = (x : SessionState) → WasMade z x → x.owner ≡ 1 → KeepsKind x.view.role x.view

pub own_kind : (n : NodeState) (a : AgentState) (h : Handle) (side : Side) (x : SessionState) → Gives n a → IsOwnSession n.sessions h side x → KeepsKind x.view.role x.view
own_kind n a h side x k own = k.kinds x (inl (h.place, state_slot n.sessions h x own.at)) own.owner

-- the end that has offered a prefix in a session of the agent is the one that its request makes offer
pub sides : (n : NodeState) (a : AgentState) → Gives n a → (x : SessionState) (p : Prefix) → WasMade n.sessions x → x.owner ≡ 1 → HasOffered x.view p → IsOffering x.view
sides n a k x p made owner o = offers_by x.view.role x.view p refl (k.kinds x made owner) o

-- where the agent says nothing
pub kinds_on : (z w : Sessions) → OwnGoOn z w → KeepKinds z → KeepKinds w
kinds_on z w g k x (inl i) owner =
    let s = g.were i.0 x i.1 owner in
    let kind : KeepsKind s.0.view.role x.view = heard_kind s.0.view.role s.0.view x.view s.2.view refl (k s.0 (inl (i.0, s.1)) (sym s.2.owner ∙ owner)) in
    subst (λ side. KeepsKind side x.view) (sym (heard_alike s.0.view x.view s.2.view).role) kind
kinds_on z w g k x (inr c) owner = k x (inr (g.left x owner c)) owner

-- where one place is set, and none but what was made is no longer live
module _ (z w : Sessions) (p : ℕ) (v : Option SessionState) (set : w.places ≡ slice_set z.places p v) (gone : (x : SessionState) → Contains w.gone x → WasMade z x) (k : KeepKinds z) where
  kinds_set : ((x : SessionState) → v ≡ Some x → KeepsKind x.view.role x.view) → KeepKinds w
  kinds_set new x (inl i) owner = by_case (set_some z.places p v i.0 x (ap (λ (l : List (Option SessionState)). slice_index_or l i.0 None) (sym set) ∙ i.1)) where
    by_case : ((i.0 ≡ p) × (v ≡ Some x)) ⊎ ((i.0 ≢ p) × (slice_index_or z.places i.0 None ≡ Some x)) → KeepsKind x.view.role x.view
    by_case (inl c) = new x c.1
    by_case (inr c) = k x (inl (i.0, c.1)) owner
  kinds_set new x (inr c) owner = k x (gone x c) owner

-- by this session
pub kinds_new : (z w : Sessions) (p : ℕ) (new : SessionState) → w.places ≡ slice_set z.places p (Some new) → w.gone ≡ z.gone → KeepsKind new.view.role new.view → KeepKinds z → KeepKinds w
kinds_new z w p new set gone kind k =
    kinds_set z w p (Some new) set (λ x has. inr (subst (λ (l : List SessionState). Contains l x) gone has)) k
    (λ x e. subst (λ (u : SessionState). KeepsKind u.view.role u.view) (some_state new x e) kind)

-- where this session is no longer live
pub kinds_left : (z : Sessions) (h : Handle) (x : SessionState) → session_at z h ≡ Some x → KeepKinds z → KeepKinds (left z h x)
kinds_left z h x at k = kinds_set z (left z h x) h.place None refl was k (λ y e. absurd (none-some y e)) where
  was : (y : SessionState) → Contains (x ∷ z.gone) y → WasMade z y
  was y has = by_case (cons_cases x y z.gone has) where
    by_case : (x ≡ y) ⊎ Contains z.gone y → WasMade z y
    by_case (inl c) = subst (WasMade z) c (inl (h.place, state_slot z h x at))
    by_case (inr c) = inr c
