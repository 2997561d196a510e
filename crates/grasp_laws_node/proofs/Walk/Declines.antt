-- What a call says goes to the streams of sessions without an outcome, and of those that no agent has taken.
use Rattle.std.proofs.Common.{◌≡◌, ℕ, zero, suc, true, ◌&&◌, ◌==◌, List, [], ◌∷◌, ◌++◌, Option, Some, None, Ok, bytes_eq, nat_lt, refl, sym, ap, ◌∙◌, subst}
use Rattle.std.proofs.lemmas.Bool.{and_parts, eqb-true}
use Rattle.grasp_session.proofs.Facts.{allowed_goes}
use Rattle.grasp_session.proofs.Means.{checked_means}
use Rattle.grasp_session.proofs.Tables.{state_slot}
use Rattle.grasp_laws_session.proofs.Runs.{some_state}
use Rattle.grasp_laws_session.proofs.Streams.{is_least}
use Rattle.grasp_session.specs.Says.{IsAt}
use Rattle.grasp_session.specs.Sessions.{SessionState, Sessions, session_at, stream_of, check_reply, untaken_above_reply}
use Rattle.grasp_session.specs.Transcript.{is_going, request_of}
use Rattle.grasp_session.specs.declared.answer.Act.{Act}
use Rattle.grasp_types.specs.declared.session.Handle.{Handle}
use Rattle.grasp_model_node.specs.Declines.{Declining, declines_above, declines_of, decline_at, next_decline}
use Rattle.grasp_model_node.specs.Node.{NodeState}
use Rattle.grasp_model_node.specs.RegistryCalls.{declines_for}
use Rattle.grasp_model_node.specs.SessionCalls.{stream_or, stream_at}
use Rattle.grasp_laws_node.proofs.Walk.Moves.{IsUnlistened}

-- the stream of each live session without an outcome is so, and that of each that no agent has taken
pub record SpeakOn (S : ℕ → Type 0) (z : Sessions) : Type 0 where
  pub going : (place : ℕ) (x : SessionState) → IsAt z place x → is_going x.view ≡ true → S x.stream
  pub untaken : (place : ℕ) (x : SessionState) → IsAt z place x → x.owner ≡ 0 → S x.stream

module _ (S : ℕ → Type 0) where
  abbrev pub DeclineOn : List Declining → Type 0
  DeclineOn [] = Unit {0}
  DeclineOn (d ∷ ds) = (S d.stream × IsUnlistened d.message) × DeclineOn ds

  pub checked_on : (n : NodeState) (asa : ℕ) (h : Handle) (a : Act) → SpeakOn S n.sessions → check_reply n.sessions asa h a ≡ Ok tt → S (stream_at n h)
  checked_on n asa h a s e =
      let c = checked_means n.sessions asa h a e in
      let on : c.state.stream ≡ stream_at n h = sym (ap (λ o. stream_or (stream_of o)) c.at) in
      subst S on (s.going h.place c.state (state_slot n.sessions h c.state c.at) (allowed_goes c.state.view a c.allowed))

  above_on : (z : Sessions) → SpeakOn S z → (name : List ℕ) (k above : ℕ) → DeclineOn (declines_above z name k above)
  unfolding declines_above
  above_on z s name zero above = tt
  above_on z s name (suc k) above = by_handle (untaken_above_reply z name above) refl (λ number. above_on z s name k number) where
    by_state : (h : Handle) → (o : Option SessionState) → ((x : SessionState) → o ≡ Some x → S x.stream) → DeclineOn (declines_above z name k h.number) → DeclineOn (decline_at h o (declines_above z name k h.number))
    by_state h None f rest = rest
    by_state h (Some x) f rest = ((f x refl, refl), rest)

    by_handle : (o : Option Handle) → untaken_above_reply z name above ≡ o → ((number : ℕ) → DeclineOn (declines_above z name k number)) → DeclineOn (next_decline z (λ number. declines_above z name k number) o)
    by_handle None e rest = tt
    by_handle (Some h) e rest =
        let l = is_least z (λ x. nat_lt above x.number && (x.owner == 0) && bytes_eq (request_of x.view).name name) h e in
        let own : l.state.owner ≡ 0 =
        eqb-true l.state.owner 0 (and_parts (nat_lt above l.state.number) (l.state.owner == 0) (and_parts (nat_lt above l.state.number && (l.state.owner == 0)) (bytes_eq (request_of l.state.view).name name) l.passes).0).1 in
        by_state h (session_at z h) (λ x f. subst (λ (y : SessionState). S y.stream) (some_state l.state x (sym l.at ∙ f)) (s.untaken h.place l.state l.place own)) (rest h.number)

  pub declines_of_on : (z : Sessions) → SpeakOn S z → (name : List ℕ) → DeclineOn (declines_of z name)
  declines_of_on z s name = above_on z s name 64 0

  both_on : (ds es : List Declining) → DeclineOn ds → DeclineOn es → DeclineOn (ds ++ es)
  both_on [] es h k = k
  both_on (d ∷ ds) es h k = (h.0, both_on ds es h.1 k)

  pub declines_for_on : (z : Sessions) → SpeakOn S z → (names : List (List ℕ)) → DeclineOn (declines_for z names)
  declines_for_on z s [] = tt
  declines_for_on z s (name ∷ names) = both_on (declines_of z name) (declines_for z names) (declines_of_on z s name) (declines_for_on z s names)
