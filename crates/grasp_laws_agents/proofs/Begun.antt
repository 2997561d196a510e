-- What a call of the agent makes of the node where its step has begun, it makes of the node before.
use Rattle.std.proofs.Common.{◌≡◌, ◌⊎◌, refl, sym, ap, ◌∙◌, subst, inl, inr, ℕ, Bool, true, false, cond, ◌&&◌, Option, None, Some, slice_index_or}
use Rattle.grasp_agent.specs.States.{AgentState}
use Rattle.grasp_laws_node.proofs.Beginning.{sessions_time_out}
use Rattle.grasp_laws_node.proofs.Meaning.Acts.{number_at}
use Rattle.grasp_model_node.specs.Begin.{begin}
use Rattle.grasp_laws_node.specs.Beginnings.{IsDue, timed_out}
use Rattle.grasp_model_node.specs.Node.{NodeState}
use Rattle.grasp_model_node.specs.BoundedNodes.{IsBoundedNode}
use Rattle.grasp_model_node.specs.Streams.{past_of}
use Rattle.grasp_pool.specs.Holdings.{IsFree}
use Rattle.grasp_laws_session.proofs.Runs.{some_state}
use Rattle.grasp_session.proofs.Facts.{at_handle}
use Rattle.grasp_session.proofs.Tables.{state_slot}
use Rattle.grasp_laws_session.proofs.Views.{fine_turn}
use Rattle.grasp_session.specs.declared.answer.Act.TheVariants as act
use Rattle.std.proofs.lemmas.Bool.{and_parts}
use Rattle.grasp_session.specs.Conversation.{accepted_by, ended, turn}
use Rattle.grasp_session.specs.Messages.{Side, Far}
use Rattle.grasp_session.specs.Says.{IsAt}
use Rattle.grasp_session.specs.Sessions.{SessionState, Sessions, with_transcript, is_leaving, session_at}
use Rattle.grasp_session.specs.Transcript.{Transcript, Expired, is_going, is_mine, known, refusal, with_mark}
use Rattle.grasp_types.specs.Prefix.{AddressBlock as Prefix, span_of}
use Rattle.grasp_types.specs.declared.session.Handle.{Handle}
use Rattle.grasp_laws_agents.specs.GoingOn.{OwnGoOn}
use Rattle.grasp_laws_agents.proofs.Places.{one_there}
use Rattle.grasp_laws_agents.specs.Giving.{IsOwnSession, IsUnaccepted}
use Rattle.grasp_laws_agents.specs.OfferLaws.{MayGoBack, IsAcceptance, FreedBy, WasOffered, was_there, just_decided, just_requested, WasOpen, was_gone, was_offer, AgentMoves}

-- as it was, or timed out
abbrev IsMarked : SessionState → SessionState → Type 0
IsMarked x y = (y ≡ x) ⊎ ((now : ℕ) × (y ≡ with_transcript x (with_mark x.view (Expired now))))

some_marked : (b : Bool) (x y : SessionState) → cond b None (Some x) ≡ Some y → y ≡ x
some_marked true x y e = absurd (cc)
some_marked false x y e = sym (some_state x y e)

was_at : (n : NodeState) (now place : ℕ) (y : SessionState) → IsBoundedNode n → IsAt (begin n now).sessions place y → (x : SessionState) × (IsAt n.sessions place x) × IsMarked x y
was_at n now place y k at = by_slot (slice_index_or n.sessions.places place None) refl where
  by_each : (x : SessionState) → IsAt (begin n now).sessions place x
      ⊎ (IsDue (begin n now).reading x × (slice_index_or (begin n now).sessions.places place None ≡ timed_out (begin n now).reading x) × (past_of (begin n now).streams x.stream ≡ None)) → IsMarked x y
  by_each x (inl i) = inl (one_there (begin n now).sessions place y x at i)
  by_each x (inr d) =
      let r = (begin n now).reading in
      inr (r, some_marked (is_leaving (with_transcript x (with_mark x.view (Expired r)))) (with_transcript x (with_mark x.view (Expired r))) y (sym d.1 ∙ at))

  by_slot : (o : Option SessionState) → slice_index_or n.sessions.places place None ≡ o → (x : SessionState) × (IsAt n.sessions place x) × IsMarked x y
  by_slot None e = let clash : None ≡ Some y = sym ((sessions_time_out n now k).empty place e) ∙ at in absurd (cc)
  by_slot (Some x) e = (x, e, by_each x ((sessions_time_out n now k).each place x e))

-- a session that is live where a step has begun was live before, and knew the same; if it goes on, nothing changed
pub record WasSo (z : Sessions) (h : Handle) (side : Side) (y : SessionState) : Type 0 where
  pub session : SessionState
  pub own : IsOwnSession z h side session
  pub stream : y.stream ≡ session.stream
  pub known_is : known y.view ≡ known session.view
  pub role : y.view.role ≡ session.view.role
  pub going : is_going y.view ≡ true → y ≡ session

pub was_so : (n : NodeState) (now : ℕ) (h : Handle) (side : Side) (y : SessionState) → IsBoundedNode n → IsOwnSession (begin n now).sessions h side y → WasSo n.sessions h side y
was_so n now h side y k o = by_mark w.0 w.1 w.2 where
  w : (x : SessionState) × (IsAt n.sessions h.place x) × IsMarked x y
  w = was_at n now h.place y k (state_slot (begin n now).sessions h y o.at)

  number : y.number ≡ h.number
  number = number_at (begin n now).sessions h y o.at

  by_mark : (x : SessionState) → IsAt n.sessions h.place x → IsMarked x y → WasSo n.sessions h side y
  by_mark x at (inl e) = record {
    session = x;
    own = record {
      at = at_handle n.sessions h x at (ap (λ (u : SessionState). u.number) (sym e) ∙ number);
      owner = ap (λ (u : SessionState). u.owner) (sym e) ∙ o.owner;
      role = ap (λ (u : SessionState). u.view.role) (sym e) ∙ o.role;
    };
    stream = ap (λ (u : SessionState). u.stream) e;
    known_is = ap (λ (u : SessionState). known u.view) e;
    role = ap (λ (u : SessionState). u.view.role) e;
    going = λ g. e;
  }
  by_mark x at (inr d) = record {
    session = x;
    own = record {
      at = at_handle n.sessions h x at (ap (λ (u : SessionState). u.number) (sym d.1) ∙ number);
      owner = ap (λ (u : SessionState). u.owner) (sym d.1) ∙ o.owner;
      role = ap (λ (u : SessionState). u.view.role) (sym d.1) ∙ o.role;
    };
    stream = ap (λ (u : SessionState). u.stream) d.1;
    known_is = ap (λ (u : SessionState). known u.view) d.1;
    role = ap (λ (u : SessionState). u.view.role) d.1;
    going = λ g. let clash : true ≡ false = sym g ∙ ap (λ (u : SessionState). is_going u.view) d.1 in absurd (cc);
  }

unaccepted_before : (v w : Transcript) → known w ≡ known v → w.role ≡ v.role → IsUnaccepted w → IsUnaccepted v
unaccepted_before v w e f u = record { whole = whole u.whole; no_acceptance = λ side. ap (accepted_by side) (sym e) ∙ u.no_acceptance side } where
  whole : (turn (known w) ≡ w.role) ⊎ (ended (known w) ≡ true) → (turn (known v) ≡ v.role) ⊎ (ended (known v) ≡ true)
  whole (inl t) = inl (ap turn (sym e) ∙ (t ∙ f))
  whole (inr t) = inr (ap ended (sym e) ∙ t)

may_go : (v : Transcript) → refusal v act.End ≡ None → is_going v ≡ true
may_go v e = (and_parts (is_going v) (is_mine v) (fine_turn (is_going v && is_mine v) None e).0).0

module _ (n after : NodeState) (now : ℕ) (a b : AgentState) (k : IsBoundedNode n) (on : OwnGoOn n.sessions (begin n now).sessions) where
  back_before : (p : Prefix) → MayGoBack (begin n now) a p → MayGoBack n a p
  back_before p g =
      let w = was_so n now g.handle g.side g.session k g.own in
      record { handle = g.handle; side = g.side; session = w.session; offers = g.offers; own = w.own; unaccepted = unaccepted_before w.session.view g.session.view w.known_is w.role g.unaccepted }

  -- where the agent might accept, nothing changed
  acceptance_before : (p : Prefix) → IsAcceptance (begin n now) after a p → IsAcceptance n after a p
  acceptance_before p g =
      let w = was_so n now g.handle g.side g.session k g.own in
      let same : g.session ≡ w.session = w.going (may_go g.session.view g.may) in
      record {
        handle = g.handle;
        side = g.side;
        session = g.session;
        now = g.now;
        act_is = g.act_is;
        own = subst (IsOwnSession n.sessions g.handle g.side) (sym same) w.own;
        may = g.may;
        offer = g.offer;
        said = g.said;
      }

  freed_before : (address : ℕ) → FreedBy (begin n now) after a address → FreedBy n after a address
  freed_before address (inl f) = inl (f.0, f.1, back_before f.0 f.2)
  freed_before address (inr (inl f)) = inr (inl (f.0, f.1, acceptance_before f.0 f.2))
  freed_before address (inr (inr f)) = inr (inr f)

  offer_before : (side : Side) (h : Handle) (p : Prefix) → WasOffered (begin n now) a b side h p → WasOffered n a b side h p
  offer_before side h p (was_there o) = was_there o
  offer_before side h p (just_requested near unsent requested) = just_requested near unsent requested
  offer_before side h p (just_decided far place idle is x own unaccepted free) =
      let w = was_so n now h Far x k own in
      just_decided far place idle is w.session w.own (unaccepted_before w.session.view x.view w.known_is w.role unaccepted) (λ address in_p. by_free address (free address in_p)) where
        by_free : (address : ℕ) → IsFree a.pool address ⊎ ((q : Prefix) × span_of q address × MayGoBack (begin n now) a q) → IsFree a.pool address ⊎ ((q : Prefix) × span_of q address × MayGoBack n a q)
        by_free address (inl f) = inl f
        by_free address (inr f) = inr (f.0, f.1, back_before f.0 f.2)

  open_before : (x : SessionState) (p : Prefix) → x.owner ≡ 1 → WasOpen (begin n now) a b x p → WasOpen n a b x p
  open_before x p owner (was_gone has) = was_gone (on.left x owner has)
  open_before x p owner (was_offer side h y offers there stream doubted) =
      let w = was_at n now h.place y k (state_slot (begin n now).sessions h y there) in
      was_offer side h w.0 offers (at_handle n.sessions h w.0 w.1 (number w.0 w.2 ∙ number_at (begin n now).sessions h y there)) (stream ∙ on_stream w.0 w.2) doubted where
        number : (u : SessionState) → IsMarked u y → u.number ≡ y.number
        number u (inl e) = ap (λ (s : SessionState). s.number) (sym e)
        number u (inr d) = ap (λ (s : SessionState). s.number) (sym d.1)

        on_stream : (u : SessionState) → IsMarked u y → y.stream ≡ u.stream
        on_stream u (inl e) = ap (λ (s : SessionState). s.stream) e
        on_stream u (inr d) = ap (λ (s : SessionState). s.stream) d.1

  stream_before : AgentMoves (begin n now) after a b → (h : Handle) (x y : SessionState) → session_at n.sessions h ≡ Some x → x.owner ≡ 1 → session_at after.sessions h ≡ Some y → y.stream ≡ x.stream
  stream_before m h x y at owner there =
      let s = on.stay h.place x (state_slot n.sessions h x at) owner in
      m.streams h s.0 y (at_handle (begin n now).sessions h s.0 s.1 (s.2.number ∙ number_at n.sessions h x at)) (s.2.owner ∙ owner) there ∙ s.2.stream

  pub moves_before : AgentMoves (begin n now) after a b → AgentMoves n after a b
  moves_before m = record {
    streams = stream_before m;
    freed = λ address f. by_freed address (m.freed address f);
    offered = λ side h p o. offer_before side h p (m.offered side h p o);
    unsent = m.unsent;
    doubts = λ x p has owner pending. open_before x p owner (m.doubts x p has owner pending);
    keeps_doubts = m.keeps_doubts;
    reserved = m.reserved;
    doubtful = m.doubtful;
  } where
    by_freed : (address : ℕ) → IsFree a.pool address ⊎ FreedBy (begin n now) after a address → IsFree a.pool address ⊎ FreedBy n after a address
    by_freed address (inl f) = inl f
    by_freed address (inr f) = inr (freed_before address f)
