-- What a call of an agent for its objective changes of the sessions of its node, and what it leaves of those that were made.
use Rattle.std.proofs.Common.{◌≡◌, ◌≢◌, ◌⊎◌, inl, inr, refl, sym, ap, ◌∙◌, subst, arith, ℕ, ◌<◌, ◌==◌, ◌||◌, Bool, true, false, cond, List, ◌∷◌, Contains, Option, None, Some, Ok, slice_set, slice_index_or}
use Rattle.std.proofs.lemmas.Bool.{cases_eq, eqb-true}
use Rattle.std.specs.List.{list_any}
use Rattle.std.proofs.lemmas.List.{get_or-set_same, get_or-set_other}
use Rattle.std.proofs.lemmas.Option.{none-some}
use Rattle.grasp_types.specs.declared.address.Address.{Address}
use Rattle.grasp_types.specs.declared.call.Call.{Call}
use Rattle.grasp_types.specs.declared.call.Call.TheVariants as call
use Rattle.grasp_types.specs.declared.objective.Objective.{Objective}
use Rattle.grasp_types.specs.declared.reply.ApiAnswer.{ApiAnswer}
use Rattle.grasp_types.specs.declared.reply.ApiAnswer.TheVariants as answer
use Rattle.grasp_types.specs.declared.reply.Reply.{Reply}
use Rattle.grasp_types.specs.declared.reply.Reply.TheVariants as reply
use Rattle.grasp_types.specs.declared.session.Handle.{Handle}
use Rattle.grasp_types.specs.declared.session.Outcome.{Outcome}
use Rattle.grasp_session.proofs.Tables.{state_slot}
use Rattle.grasp_session.specs.Messages.{is_acceptance}
use Rattle.grasp_session.specs.Runs.{WasMade}
use Rattle.grasp_session.specs.Says.{IsAt, Starts}
use Rattle.grasp_session.specs.Sessions.{SessionState, Sessions, if_owner, session_at, session_owned, with_owner, with_transcript}
use Rattle.grasp_session.specs.Transcript.{Saying, SayEnd, SayStep, having_said, is_mine, message_of, outcome_of, request_of}
use Rattle.grasp_model_node.specs.BoundedNodes.{IsBoundedNode}
use Rattle.grasp_model_node.specs.Node.{NodeState}
use Rattle.grasp_model_node.specs.Step.{Calls, MayCall, after_call}
use Rattle.grasp_laws_agents.proofs.GoingOn.{heard_alike}
use Rattle.grasp_laws_agents.proofs.Places.{one_there, owned_at}
use Rattle.grasp_laws_agents.specs.Calls.{CallsMean}
use Rattle.grasp_laws_node.specs.Means.{ListenTells, PollFacts}
use Rattle.grasp_laws_owned.specs.Owned.{GoOnBy}
use Rattle.grasp_laws_owned.specs.Serving.{IsServing}
use Rattle.grasp_laws_prefixes.proofs.Listing.{either_in, first_in, more_in}
use Rattle.grasp_laws_prefixes.proofs.Speaking.{accepts, sent_same}
use Rattle.grasp_laws_session.proofs.Runs.{at_below, set_some, some_state}

-- ---- one session, and what it becomes

-- the second is the first one later
pub record IsLater (x y : SessionState) : Type 0 where
  pub number : y.number ≡ x.number
  pub owner : y.owner ≡ x.owner
  pub stream : y.stream ≡ x.stream
  pub role : y.view.role ≡ x.view.role
  pub kind : y.view.kind ≡ x.view.kind
  pub request : request_of y.view ≡ request_of x.view

pub itself : (x : SessionState) → IsLater x x
itself x = record { number = refl; owner = refl; stream = refl; role = refl; kind = refl; request = refl }

pub later_then : (x y z : SessionState) → IsLater x y → IsLater y z → IsLater x z
later_then x y z a b = record {
  number = b.number ∙ a.number;
  owner = b.owner ∙ a.owner;
  stream = b.stream ∙ a.stream;
  role = b.role ∙ a.role;
  kind = b.kind ∙ a.kind;
  request = b.request ∙ a.request;
}

-- each session of this agent that was made is made still
abbrev pub MadeStay : ℕ → Sessions → Sessions → Type 0
MadeStay asa z w = (x : SessionState) → WasMade z x → x.owner ≡ asa → (y : SessionState) × WasMade w y × IsLater x y

pub stay_then : (asa : ℕ) (x y z : Sessions) → MadeStay asa x y → MadeStay asa y z → MadeStay asa x z
stay_then asa x y z a b s made own =
    let f = a s made own in
    let g = b f.0 f.1 (f.2.owner ∙ own) in
    (g.0, g.1, later_then s f.0 g.0 f.2 g.2)

-- where sessions go on
pub made_on : (asa : ℕ) (z w : Sessions) → GoOnBy asa z w → MadeStay asa z w
made_on asa z w g x (inl live) own =
    let f = g.stay live.0 x live.1 own in
    let alike = heard_alike x.view f.0.view f.2.view in
    (f.0, inl (live.0, f.1), record { number = f.2.number; owner = f.2.owner; stream = f.2.stream; role = alike.role; kind = alike.kind; request = alike.request })
made_on asa z w g x (inr gone) own = (x, inr (g.gone x gone), itself x)

-- ---- what a call changes

-- the call says this in the session of this handle
abbrev pub SaysBy : Call → Handle → Saying → Type 0
SaysBy (call.NegotiateStep k value) h s = (k ≡ h) × (s ≡ SayStep value)
SaysBy (call.EndNegotiate k verdict) h s = (k ≡ h) × (s ≡ SayEnd verdict)
SaysBy _ h s = ⊥

-- nothing changes; or a session begins; or one that no agent had taken is the agent's now; or the agent has said something in a session of its own; or
-- that is no longer live
pub data OwnChange (asa : ℕ) (n after : NodeState) (c : Call) (r : Reply) : Type 0 where
  unchanged : after.sessions ≡ n.sessions → OwnChange asa n after c r
  begins : (h : Handle) (new : SessionState) → Starts n.sessions h → new.number ≡ h.number → new.owner ≡ asa → accepts new.view ≡ false → r ≡ reply.Api (answer.Started h)
      → after.sessions.places ≡ slice_set n.sessions.places h.place (Some new) → after.sessions.gone ≡ n.sessions.gone → OwnChange asa n after c r
  takes : (h : Handle) (x : SessionState) (from : Address) (o : Objective) → IsAt n.sessions h.place x → x.number ≡ h.number → x.owner ≡ 0 → r ≡ reply.Api (answer.Incoming h from o)
      → after.sessions.places ≡ slice_set n.sessions.places h.place (Some (with_owner x asa)) → after.sessions.gone ≡ n.sessions.gone → OwnChange asa n after c r
  says : (h : Handle) (x : SessionState) (now : ℕ) (s : Saying) → session_at n.sessions h ≡ Some x → x.owner ≡ asa → SaysBy c h s
      → after.sessions.places ≡ slice_set n.sessions.places h.place (Some (with_transcript x (having_said x.view now s))) → after.sessions.gone ≡ n.sessions.gone → OwnChange asa n after c r
  leaves : (h : Handle) (x : SessionState) → session_at n.sessions h ≡ Some x → after.sessions.places ≡ slice_set n.sessions.places h.place None
      → after.sessions.gone ≡ x ∷ n.sessions.gone → OwnChange asa n after c r

owned_by : (owner : ℕ) (o : Option SessionState) (x : SessionState) → if_owner (λ (y : SessionState). y.owner) owner o ≡ Some x → x.owner ≡ owner
owned_by owner None x e = absurd (none-some x e)
owned_by owner (Some y) x e = by_test (y.owner == owner) refl e where
  by_test : (b : Bool) → (y.owner == owner) ≡ b → cond b (Some y) None ≡ Some x → x.owner ≡ owner
  by_test true is f = ap (λ (z : SessionState). z.owner) (sym (some_state y x f)) ∙ eqb-true y.owner owner is
  by_test false is f = absurd (none-some x f)

-- an agent has this session, where it is owned by it
pub owner_at : (z : Sessions) (owner : ℕ) (h : Handle) (x : SessionState) → session_owned z owner h ≡ Some x → x.owner ≡ owner
owner_at z owner h x e = owned_by owner (session_at z h) x e

module _ (means : CallsMean) (asa : ℕ) (name : List ℕ) (n after : NodeState) (sound : IsBoundedNode n) where
  abbrev Changes : Call → Reply → Type 0
  Changes c r = OwnChange asa n after c r

  still : (c : Call) (r : Reply) → after ≡ n → Changes c r
  still c r e = unchanged (ap (λ (m : NodeState). m.sessions) e)

  polled : (h : Handle) (a : ApiAnswer) → MayCall n asa (call.Poll h) (Ok a) → after ≡ after_call n asa (call.Poll h) (Ok a) → Changes (call.Poll h) (reply.Api a)
  polled h a may same = by_outcome (outcome_of f.session.view) refl where
    f : PollFacts n asa h a after
    f = subst (PollFacts n asa h a) (sym same) (means.polls n asa h a may)

    by_mine : (b : Bool) → is_mine f.session.view ≡ b → outcome_of f.session.view ≡ None → Changes (call.Poll h) (reply.Api a)
    by_mine true m e = still (call.Poll h) (reply.Api a) (f.turn e m).1
    by_mine false m e = still (call.Poll h) (reply.Api a) (f.waiting e m).1

    by_outcome : (o : Option Outcome) → outcome_of f.session.view ≡ o → Changes (call.Poll h) (reply.Api a)
    by_outcome None e = by_mine (is_mine f.session.view) refl e
    by_outcome (Some o) e =
        let leads = (f.ended o e).1 in
        leaves h f.session (owned_at n.sessions asa h f.session f.holds.owned) (ap (λ (m : NodeState). m.sessions.places) leads) (ap (λ (m : NodeState). m.sessions.gone) leads)

  listened : (objective : List ℕ) (a : ApiAnswer) → ListenTells n asa objective a after → Changes (call.ListenNegotiate objective) (reply.Api a)
  listened objective (answer.Incoming h from o) l =
      takes h l.session from o l.at l.number l.untaken.owner refl (ap (λ (m : NodeState). m.sessions.places) l.leads) (ap (λ (m : NodeState). m.sessions.gone) l.leads)
  listened objective answer.NotYet l = unchanged (ap (λ (m : NodeState). m.sessions) l.1)
  listened objective a l = absurd l

  answered : (c : Call) (a : ApiAnswer) → IsServing name c → MayCall n asa c (Ok a) → after ≡ after_call n asa c (Ok a) → Changes c (reply.Api a)
  answered (call.RequestNegotiate objective value loops timeout dry peer) a serves may same =
      let f = means.requests n asa objective value loops timeout dry peer a sound may in
      let leads = same ∙ f.leads in
      begins f.handle _ f.starts (sym f.starts.number) refl refl (ap reply.Api f.told) (ap (λ (m : NodeState). m.sessions.places) leads) (ap (λ (m : NodeState). m.sessions.gone) leads)
  answered (call.ListenNegotiate objective) a serves may same = listened objective a (subst (ListenTells n asa objective a) (sym same) (means.listens n asa objective a may).tells)
  answered (call.NegotiateStep h value) a serves may same =
      let f = means.steps n asa h value a sound may in
      let leads = same ∙ f.leads in
      says h f.session n.reading (SayStep value) (owned_at n.sessions asa h f.session f.holds.owned) (owner_at n.sessions asa h f.session f.holds.owned) (refl, refl)
      (ap (λ (m : NodeState). m.sessions.places) leads) (ap (λ (m : NodeState). m.sessions.gone) leads)
  answered (call.EndNegotiate h verdict) a serves may same =
      let f = means.ends n asa h verdict a sound may in
      let leads = same ∙ f.leads in
      says h f.session n.reading (SayEnd verdict) (owned_at n.sessions asa h f.session f.holds.owned) (owner_at n.sessions asa h f.session f.holds.owned) (refl, refl)
      (ap (λ (m : NodeState). m.sessions.places) leads) (ap (λ (m : NodeState). m.sessions.gone) leads)
  answered (call.Poll h) a serves may same = polled h a may same
  answered _ a serves may same = absurd serves

  pub own_change : (c : Call) (r : Reply) → IsServing name c → Calls n asa c r after → Changes c r
  own_change c (reply.Api a) serves t = answered c a serves t.0 t.1
  own_change c (reply.Refused x) serves t = still c (reply.Refused x) t.1
  own_change c _ serves t = absurd t

-- ---- what stays

said_request : (x : SessionState) (now : ℕ) (s : Saying) → request_of (having_said x.view now s) ≡ request_of x.view
said_request x now (SayStep value) = refl
said_request x now _ = refl

said_later : (x : SessionState) (now : ℕ) (s : Saying) → IsLater x (with_transcript x (having_said x.view now s))
said_later x now s = record { number = refl; owner = refl; stream = refl; role = refl; kind = refl; request = said_request x now s }

module _ (asa : ℕ) (n after : NodeState) (least : 0 < asa) where
  -- one place is set, and what no longer is live stays so
  set_stay : (p : ℕ) (v : Option SessionState) → after.sessions.places ≡ slice_set n.sessions.places p v → ((x : SessionState) → Contains n.sessions.gone x → Contains after.sessions.gone x)
      → ((x : SessionState) → IsAt n.sessions p x → x.owner ≡ asa → (y : SessionState) × WasMade after.sessions y × IsLater x y) → MadeStay asa n.sessions after.sessions
  set_stay p v set gone here x (inr left) own = (x, inr (gone x left), itself x)
  set_stay p v set gone here x (inl live) own = by_place (cases_eq live.0 p) where
    by_place : (live.0 ≡ p) ⊎ (live.0 ≡ p → ⊥) → (y : SessionState) × WasMade after.sessions y × IsLater x y
    by_place (inl same) = here x (subst (λ q. IsAt n.sessions q x) same live.1) own
    by_place (inr apart) = (
      x,
      inl (live.0, ap (λ (l : List (Option SessionState)). slice_index_or l live.0 None) set ∙ (get_or-set_other n.sessions.places p live.0 v None apart ∙ live.1)),
      itself x,
    )

  same_gone : after.sessions.gone ≡ n.sessions.gone → (x : SessionState) → Contains n.sessions.gone x → Contains after.sessions.gone x
  same_gone e x h = subst (λ (l : List SessionState). Contains l x) (sym e) h

  -- what is set at a place is there, where a session was
  put_there : (p : ℕ) (x new : SessionState) → after.sessions.places ≡ slice_set n.sessions.places p (Some new) → IsAt n.sessions p x → IsAt after.sessions p new
  put_there p x new set at = ap (λ (l : List (Option SessionState)). slice_index_or l p None) set ∙ get_or-set_same n.sessions.places p (Some new) None (at_below n.sessions.places p x at)

  pub own_stay : (c : Call) (r : Reply) → OwnChange asa n after c r → MadeStay asa n.sessions after.sessions
  own_stay c r (unchanged e) = λ x made own. (x, subst (λ z. WasMade z x) (sym e) made, itself x)
  own_stay c r (begins h new starts number owner none told set gone) =
      set_stay h.place (Some new) set (same_gone gone) (λ x at own. absurd (none-some x (sym starts.empty ∙ at)))
  own_stay c r (takes h x from o at number free told set gone) =
      set_stay h.place (Some (with_owner x asa)) set (same_gone gone)
      (λ y there own. absurd (let zero : asa ≡ 0 = sym own ∙ (ap (λ (u : SessionState). u.owner) (one_there n.sessions h.place y x there at) ∙ free) in omega (arith, zero, least)))
  own_stay c r (says h x now s at mine by set gone) =
      let there : IsAt n.sessions h.place x = state_slot n.sessions h x at in
      set_stay h.place (Some (with_transcript x (having_said x.view now s))) set (same_gone gone)
      (λ y here own. (
        with_transcript x (having_said x.view now s),
        inl (h.place, put_there h.place x (with_transcript x (having_said x.view now s)) set there),
        subst (λ u. IsLater u (with_transcript x (having_said x.view now s))) (one_there n.sessions h.place x y there here) (said_later x now s),
      ))
  own_stay c r (leaves h x at set gone) =
      let there : IsAt n.sessions h.place x = state_slot n.sessions h x at in
      set_stay h.place None set (λ y left. subst (λ (l : List SessionState). Contains l y) (sym gone) (more_in x n.sessions.gone y left))
      (λ y here own. (
        y,
        inr (subst (λ (l : List SessionState). Contains l y) (sym gone) (subst (λ u. Contains (x ∷ n.sessions.gone) u) (one_there n.sessions h.place x y there here) (first_in x n.sessions.gone))),
        itself y,
      ))

  -- ---- what was there

  -- a session of the agent that was made then was made before, and has accepted then only if it had before or this is what the call said in it; or
  -- it has begun, or the agent has taken it, and nothing is accepted in it
  pub data WasOwn (c : Call) (r : Reply) (y : SessionState) : Type 0 where
    was : (x : SessionState) → WasMade n.sessions x → IsLater x y → accepts y.view ≡ accepts x.view → WasOwn c r y
    spoke : (h : Handle) (x : SessionState) (s : Saying) → session_at n.sessions h ≡ Some x → IsLater x y → SaysBy c h s → accepts y.view ≡ (is_acceptance (message_of x.view s) || accepts x.view) → WasOwn c r y
    began : (h : Handle) → r ≡ reply.Api (answer.Started h) → y.number ≡ h.number → accepts y.view ≡ false → WasOwn c r y
    took : (h : Handle) (x : SessionState) (from : Address) (o : Objective) → r ≡ reply.Api (answer.Incoming h from o) → IsAt n.sessions h.place x → x.number ≡ h.number → x.owner ≡ 0 → y ≡ with_owner x asa → WasOwn c r y

  set_was : {T : Type 0} (p : ℕ) (v : Option SessionState) (y : SessionState) → after.sessions.places ≡ slice_set n.sessions.places p v → (Contains after.sessions.gone y → WasMade n.sessions y)
      → (WasMade n.sessions y → T) → (v ≡ Some y → T) → WasMade after.sessions y → T
  set_was p v y set gone old new (inr left) = old (gone left)
  set_was {T} p v y set gone old new (inl live) =
      by_place (set_some n.sessions.places p v live.0 y (subst (λ (l : List (Option SessionState)). slice_index_or l live.0 None ≡ Some y) set live.1)) where
        by_place : ((live.0 ≡ p) × (v ≡ Some y)) ⊎ ((live.0 ≢ p) × IsAt n.sessions live.0 y) → T
        by_place (inl e) = new e.1
        by_place (inr e) = old (inl (live.0, e.1))

  was_gone : after.sessions.gone ≡ n.sessions.gone → (y : SessionState) → Contains after.sessions.gone y → WasMade n.sessions y
  was_gone e y h = inr (subst (λ (l : List SessionState). Contains l y) e h)

  pub own_was : (c : Call) (r : Reply) → OwnChange asa n after c r → (y : SessionState) → WasMade after.sessions y → WasOwn c r y
  own_was c r (unchanged e) y made = was y (subst (λ z. WasMade z y) e made) (itself y) refl
  own_was c r (begins h new starts number owner none told set gone) y made =
      set_was h.place (Some new) y set (was_gone gone y) (λ m. was y m (itself y) refl)
      (λ e. let same = some_state new y e in began h told (sym (ap (λ (u : SessionState). u.number) same) ∙ number) (sym (ap (λ (u : SessionState). accepts u.view) same) ∙ none)) made
  own_was c r (takes h x from o at number free told set gone) y made =
      set_was h.place (Some (with_owner x asa)) y set (was_gone gone y) (λ m. was y m (itself y) refl) (λ e. took h x from o told at number free (sym (some_state (with_owner x asa) y e))) made
  own_was c r (says h x now s at mine by set gone) y made =
      let new : SessionState = with_transcript x (having_said x.view now s) in
      set_was h.place (Some new) y set (was_gone gone y) (λ m. was y m (itself y) refl)
      (λ e. let same = some_state new y e in spoke h x s at (subst (IsLater x) same (said_later x now s)) by (sym (ap (λ (u : SessionState). accepts u.view) same))) made
  own_was c r (leaves h x at set gone) y made =
      set_was h.place None y set (λ left. left_made (either_in x n.sessions.gone y (subst (λ (l : List SessionState). Contains l y) gone left))) (λ m. was y m (itself y) refl) (λ e. absurd (none-some y e)) made where
        left_made : (x ≡ y) ⊎ Contains n.sessions.gone y → WasMade n.sessions y
        left_made (inl e) = subst (WasMade n.sessions) e (inl (h.place, state_slot n.sessions h x at))
        left_made (inr more) = inr more

-- where sessions go on, each of the agent that was made then was made before, and has accepted exactly what it had
pub back_on : (asa : ℕ) (z w : Sessions) → GoOnBy asa z w → (y : SessionState) → WasMade w y → y.owner ≡ asa → (x : SessionState) × WasMade z x × IsLater x y × (accepts y.view ≡ accepts x.view)
back_on asa z w g y (inl live) own =
    let f = g.were live.0 y live.1 own in
    let alike = heard_alike f.0.view y.view f.2.view in (
      f.0,
      inl (live.0, f.1),
      record { number = f.2.number; owner = f.2.owner; stream = f.2.stream; role = alike.role; kind = alike.kind; request = alike.request },
      ap (list_any is_acceptance) (sent_same f.0.view y.view f.2.view),
    )
back_on asa z w g y (inr gone) own = (y, inr (g.left y own gone), itself y, refl)
