-- A call is read where its words are, and nowhere else.
use Rattle.std.proofs.Common.{◌≡◌, ℕ, ◌≤◌, Bool, List, [], ◌∷◌, Option, Some, None, Ok, refl, sym, ap, subst, ◌∙◌}
use Rattle.std.specs.Prelude.{IfSome, Err, codes, decimal}
use Rattle.std.specs.Str.{IsUtf8}
use Rattle.grasp_cbor.specs.DataItem.{DataItem}
use Rattle.grasp_types.specs.declared.address.Address.{Address}
use Rattle.grasp_types.specs.declared.address.Locator.{Locator}
use Rattle.grasp_types.specs.declared.call.Call.{Call}
use Rattle.grasp_types.specs.declared.call.Call.TheVariants.{RegisterAsa, DeregisterAsa, RegisterObjective, DeregisterObjective, Discover, RequestNegotiate, ListenNegotiate, StopListenNegotiate, NegotiateStep, NegotiateWait, EndNegotiate, SendInvalid, Poll, Synchronize, ListenSynchronize, StopListenSynchronize, Flood, GetFlood, ExpireFlood}
use Rattle.grasp_types.specs.declared.message.Verdict.TheVariants.{Accept, Decline}
use Rattle.grasp_types.specs.declared.session.Handle.{Handle}
use Rattle.grasp_types.specs.declared.session.Kind.{Kind}
use Rattle.grasp_text.specs.Grammar.{ending, reason_at}
use Rattle.grasp_text.specs.Line.{or_dash, text_word, value_word}
use Rattle.grasp_text.specs.Reading.{Parsed, ◌>>=◌}
use Rattle.grasp_text.proofs.Lawful.{ok_is}
use Rattle.grasp_text.proofs.Readers.{texts_read, values_read}
use Rattle.grasp_script.specs.Calls.{kind_word, dry_word, peer_word, initiator_word, call_words, IsNamed, IsCall}
use Rattle.grasp_script.specs.Grammar.{name_at, session_at, objective_call_at, discover_at, request_at, step_at, wait_at, decline_at, invalid_at, synchronize_at, offer_at, flood_at, expire_at, with_name, with_session, accepting, called_at, call_at}
use Rattle.grasp_script.specs.declared.names.CallName.{CallName}
use Rattle.grasp_script.specs.declared.names.CallName.TheVariants as call
use Rattle.grasp_script.proofs.Fields.{taken, ended, after, Means}
use Rattle.grasp_script.proofs.WordReaders.{read8, read32, read_flags, small8, small32, within8, within32, read_maybe, read_peer, read_initiator, read_handle, read_kind, read_dry, call_word, call_again, read_call_name}

-- ---- a name alone, and a session alone

record Named (x : List ℕ × List (List ℕ)) (ws : List (List ℕ)) : Type 0 where
  utf8 : IsUtf8 x.0
  spelled : ws ≡ text_word x.0 ∷ []
  over : x.1 ≡ []

over_at : {A : Type 0} (a : A) (ws : List (List ℕ)) (x : A × List (List ℕ)) → ending a ws ≡ Ok x → (x ≡ (a, [])) × (ws ≡ [])
over_at {A = A} a [] x e = (sym (ok_is (a, []) x e), refl)
over_at a (w ∷ ws) x e = absurd cc

name_only : (ws : List (List ℕ)) (x : List ℕ × List (List ℕ)) → name_at ws ≡ Ok x → Named x ws
unfolding name_at
name_only ws x e =
    let a = taken texts_read _ ws x e in
    let z = over_at a.first a.rest x a.more in
    subst (λ (y : List ℕ × List (List ℕ)). Named y ws) (sym z.0) (record { utf8 = a.is; spelled = after a.parts z.1; over = refl })

record InSession (x : Handle × List (List ℕ)) (ws : List (List ℕ)) : Type 0 where
  named : IsNamed x.0
  spelled : ws ≡ decimal x.0.number ∷ []

session_only : (ws : List (List ℕ)) (x : Handle × List (List ℕ)) → session_at ws ≡ Ok x → InSession x ws
unfolding session_at
session_only ws x e =
    let a = taken read_handle _ ws x e in
    let z = over_at a.first a.rest x a.more in
    subst (λ (y : Handle × List (List ℕ)). InSession y ws) (sym z.0) (record { named = a.is; spelled = after a.parts z.1 })

name_found : (name : List ℕ) → IsUtf8 name → name_at (text_word name ∷ []) ≡ Ok (name, [])
unfolding name_at
name_found name h = rw (texts_read.found name h) refl

session_found : (handle : Handle) → IsNamed handle → session_at (decimal handle.number ∷ []) ≡ Ok (handle, [])
unfolding session_at
session_found handle h = rw (read_handle.found handle h) refl

-- what is made of it
abbrev as_made : {A : Type 0} → (A → Call) → A × List (List ℕ) → Parsed Call
as_made make x = Ok (make x.0, x.1)

-- what was made of it
made_at : {A : Type 0} (make : A → Call) (r : Parsed A) (x : Call × List (List ℕ)) → (r >>= λ a. Ok (make a.0, a.1)) ≡ Ok x → (a : A × List (List ℕ)) × (r ≡ Ok a) × (x.0 ≡ make a.0)
made_at make (Ok a) x e = (a, refl, ap (λ (y : Call × List (List ℕ)). y.0) (sym (ok_is (make a.0, a.1) x e)))
made_at make (Err n) x e = absurd cc

-- ---- a reason

record Reason (x : Option (List ℕ) × List (List ℕ)) (handle : Handle) (ws : List (List ℕ)) : Type 0 where
  spelled : codes "decline" ∷ decimal handle.number ∷ ws ≡ call_words (EndNegotiate handle (Decline x.0))
  utf8 : IfSome x.0 IsUtf8

reason_only : (handle : Handle) (ws : List (List ℕ)) (x : Option (List ℕ) × List (List ℕ)) → reason_at ws ≡ Ok x → Reason x handle ws
reason_only handle [] x e = subst (λ (y : Option (List ℕ) × List (List ℕ)). Reason y handle []) (ok_is (None, []) x e) (record { spelled = refl; utf8 = tt })
reason_only handle (w ∷ ws) x e =
    let a = taken texts_read _ (w ∷ ws) x e in
    let z = over_at (Some a.first) a.rest x a.more in
    subst (λ (y : Option (List ℕ) × List (List ℕ)). Reason y handle (w ∷ ws)) (sym z.0) (record {
      spelled = ap (λ (t : List (List ℕ)). codes "decline" ∷ decimal handle.number ∷ t) (after a.parts z.1);
      utf8 = a.is;
    })

module _ (nodes : ℕ) (few : nodes ≤ 255) where
  abbrev One : Call → Type 0
  One c = IsCall nodes c

  objective_call_only : (ws : List (List ℕ)) (x : Call × List (List ℕ)) → objective_call_at ws ≡ Ok x → Means One call_words x.0 (codes "objective" ∷ ws)
  unfolding objective_call_at
  objective_call_only ws x e =
      let a = taken texts_read _ ws x e in
      let b = taken read_flags _ a.rest x a.more in
      let z = ended (RegisterObjective a.first b.first) b.rest x b.more in
      subst (λ (y : Call). Means One call_words y (codes "objective" ∷ ws)) (sym z.value) (record {
        ranges = (a.is, b.is);
        spelled = ap (λ (t : List (List ℕ)). codes "objective" ∷ t) (after a.parts (after b.parts (z.words)));
      })

  discover_only : (ws : List (List ℕ)) (x : Call × List (List ℕ)) → discover_at ws ≡ Ok x → Means One call_words x.0 (codes "discover" ∷ ws)
  unfolding discover_at
  discover_only ws x e =
      let a = taken texts_read _ ws x e in
      let b = taken read_kind _ a.rest x a.more in
      let c = taken read8 _ b.rest x b.more in
      let d = taken read32 _ c.rest x c.more in
      let z = ended (Discover a.first b.first c.first d.first) d.rest x d.more in
      subst (λ (y : Call). Means One call_words y (codes "discover" ∷ ws)) (sym z.value) (record {
        ranges = (a.is, small8 c.is, small32 d.is);
        spelled = ap (λ (t : List (List ℕ)). codes "discover" ∷ t) (after a.parts (after b.parts (after c.parts (after d.parts (z.words)))));
      })

  request_only : (ws : List (List ℕ)) (x : Call × List (List ℕ)) → request_at nodes ws ≡ Ok x → Means One call_words x.0 (codes "request" ∷ ws)
  unfolding request_at
  request_only ws x e =
      let a = taken texts_read _ ws x e in
      let b = taken values_read _ a.rest x a.more in
      let c = taken read8 _ b.rest x b.more in
      let d = taken read32 _ c.rest x c.more in
      let e = taken read_dry _ d.rest x d.more in
      let f = taken (read_peer nodes few) _ e.rest x e.more in
      let z = ended (RequestNegotiate a.first b.first c.first d.first e.first f.first) f.rest x f.more in
      subst (λ (y : Call). Means One call_words y (codes "request" ∷ ws)) (sym z.value) (record {
        ranges = (a.is, b.is, small8 c.is, small32 d.is, f.is);
        spelled = ap (λ (t : List (List ℕ)). codes "request" ∷ t) (after a.parts (after b.parts (after c.parts (after d.parts (after e.parts (after f.parts (z.words)))))));
      })

  step_only : (ws : List (List ℕ)) (x : Call × List (List ℕ)) → step_at ws ≡ Ok x → Means One call_words x.0 (codes "step" ∷ ws)
  unfolding step_at
  step_only ws x e =
      let a = taken read_handle _ ws x e in
      let b = taken values_read _ a.rest x a.more in
      let z = ended (NegotiateStep a.first b.first) b.rest x b.more in
      subst (λ (y : Call). Means One call_words y (codes "step" ∷ ws)) (sym z.value) (record {
        ranges = (a.is, b.is);
        spelled = ap (λ (t : List (List ℕ)). codes "step" ∷ t) (after a.parts (after b.parts (z.words)));
      })

  wait_only : (ws : List (List ℕ)) (x : Call × List (List ℕ)) → wait_at ws ≡ Ok x → Means One call_words x.0 (codes "wait" ∷ ws)
  unfolding wait_at
  wait_only ws x e =
      let a = taken read_handle _ ws x e in
      let b = taken read32 _ a.rest x a.more in
      let z = ended (NegotiateWait a.first b.first) b.rest x b.more in
      subst (λ (y : Call). Means One call_words y (codes "wait" ∷ ws)) (sym z.value) (record {
        ranges = (a.is, small32 b.is);
        spelled = ap (λ (t : List (List ℕ)). codes "wait" ∷ t) (after a.parts (after b.parts (z.words)));
      })

  invalid_only : (ws : List (List ℕ)) (x : Call × List (List ℕ)) → invalid_at ws ≡ Ok x → Means One call_words x.0 (codes "invalid" ∷ ws)
  unfolding invalid_at
  invalid_only ws x e =
      let a = taken read_handle _ ws x e in
      let b = taken read_maybe _ a.rest x a.more in
      let z = ended (SendInvalid a.first b.first) b.rest x b.more in
      subst (λ (y : Call). Means One call_words y (codes "invalid" ∷ ws)) (sym z.value) (record {
        ranges = (a.is, b.is);
        spelled = ap (λ (t : List (List ℕ)). codes "invalid" ∷ t) (after a.parts (after b.parts (z.words)));
      })

  synchronize_only : (ws : List (List ℕ)) (x : Call × List (List ℕ)) → synchronize_at nodes ws ≡ Ok x → Means One call_words x.0 (codes "synchronize" ∷ ws)
  unfolding synchronize_at
  synchronize_only ws x e =
      let a = taken texts_read _ ws x e in
      let b = taken read8 _ a.rest x a.more in
      let c = taken read32 _ b.rest x b.more in
      let d = taken (read_peer nodes few) _ c.rest x c.more in
      let z = ended (Synchronize a.first b.first c.first d.first) d.rest x d.more in
      subst (λ (y : Call). Means One call_words y (codes "synchronize" ∷ ws)) (sym z.value) (record {
        ranges = (a.is, small8 b.is, small32 c.is, d.is);
        spelled = ap (λ (t : List (List ℕ)). codes "synchronize" ∷ t) (after a.parts (after b.parts (after c.parts (after d.parts (z.words)))));
      })

  offer_only : (ws : List (List ℕ)) (x : Call × List (List ℕ)) → offer_at ws ≡ Ok x → Means One call_words x.0 (codes "offer" ∷ ws)
  unfolding offer_at
  offer_only ws x e =
      let a = taken texts_read _ ws x e in
      let b = taken values_read _ a.rest x a.more in
      let z = ended (ListenSynchronize a.first b.first) b.rest x b.more in
      subst (λ (y : Call). Means One call_words y (codes "offer" ∷ ws)) (sym z.value) (record {
        ranges = (a.is, b.is);
        spelled = ap (λ (t : List (List ℕ)). codes "offer" ∷ t) (after a.parts (after b.parts (z.words)));
      })

  flood_only : (ws : List (List ℕ)) (x : Call × List (List ℕ)) → flood_at ws ≡ Ok x → Means One call_words x.0 (codes "flood" ∷ ws)
  unfolding flood_at
  flood_only ws x e =
      let a = taken texts_read _ ws x e in
      let b = taken values_read _ a.rest x a.more in
      let c = taken read32 _ b.rest x b.more in
      let d = taken read8 _ c.rest x c.more in
      let z = ended (Flood a.first b.first c.first d.first) d.rest x d.more in
      subst (λ (y : Call). Means One call_words y (codes "flood" ∷ ws)) (sym z.value) (record {
        ranges = (a.is, b.is, small32 c.is, small8 d.is);
        spelled = ap (λ (t : List (List ℕ)). codes "flood" ∷ t) (after a.parts (after b.parts (after c.parts (after d.parts (z.words)))));
      })

  expire_only : (ws : List (List ℕ)) (x : Call × List (List ℕ)) → expire_at nodes ws ≡ Ok x → Means One call_words x.0 (codes "expire" ∷ ws)
  unfolding expire_at
  expire_only ws x e =
      let a = taken texts_read _ ws x e in
      let b = taken (read_initiator nodes few) _ a.rest x a.more in
      let z = ended (ExpireFlood a.first b.first) b.rest x b.more in
      subst (λ (y : Call). Means One call_words y (codes "expire" ∷ ws)) (sym z.value) (record {
        ranges = (a.is, b.is);
        spelled = ap (λ (t : List (List ℕ)). codes "expire" ∷ t) (after a.parts (after b.parts (z.words)));
      })

  decline_only : (ws : List (List ℕ)) (x : Call × List (List ℕ)) → decline_at ws ≡ Ok x → Means One call_words x.0 (codes "decline" ∷ ws)
  unfolding decline_at
  decline_only ws x e =
      let a = taken read_handle _ ws x e in
      let m = made_at (λ r. EndNegotiate a.first (Decline r)) (reason_at a.rest) x a.more in
      let r = reason_only a.first a.rest m.0 m.1 in
      subst (λ (y : Call). Means One call_words y (codes "decline" ∷ ws)) (sym m.2) (record {
        ranges = (a.is, r.utf8);
        spelled = ap (λ (t : List (List ℕ)). codes "decline" ∷ t) a.parts ∙ r.spelled;
      })

  named_only : (head : List ℕ) (make : List ℕ → Call) → ((name : List ℕ) → IsUtf8 name → One (make name)) → ((name : List ℕ) → call_words (make name) ≡ head ∷ text_word name ∷ []) → (ws : List (List ℕ)) (x : Call × List (List ℕ)) → with_name make ws ≡ Ok x → Means One call_words x.0 (head ∷ ws)
  named_only head make good words ws x e =
      let m = made_at make (name_at ws) x e in
      let n = name_only ws m.0 m.1 in
      subst (λ (y : Call). Means One call_words y (head ∷ ws)) (sym m.2) (record { ranges = good m.0.0 n.utf8; spelled = ap (λ (t : List (List ℕ)). head ∷ t) n.spelled ∙ sym (words m.0.0) })

  handled_only : (head : List ℕ) (make : Handle → Call) → ((handle : Handle) → IsNamed handle → One (make handle)) → ((handle : Handle) → call_words (make handle) ≡ head ∷ decimal handle.number ∷ []) → (ws : List (List ℕ)) (x : Call × List (List ℕ)) → with_session make ws ≡ Ok x → Means One call_words x.0 (head ∷ ws)
  handled_only head make good words ws x e =
      let m = made_at make (session_at ws) x e in
      let n = session_only ws m.0 m.1 in
      subst (λ (y : Call). Means One call_words y (head ∷ ws)) (sym m.2) (record { ranges = good m.0.0 n.named; spelled = ap (λ (t : List (List ℕ)). head ∷ t) n.spelled ∙ sym (words m.0.0) })

  unasa_only : (ws : List (List ℕ)) (x : Call × List (List ℕ)) → ending DeregisterAsa ws ≡ Ok x → Means One call_words x.0 (codes "unasa" ∷ ws)
  unasa_only ws x e =
      let z = ended DeregisterAsa ws x e in
      subst (λ (y : Call). Means One call_words y (codes "unasa" ∷ ws)) (sym z.value) (record { ranges = tt; spelled = ap (λ (t : List (List ℕ)). codes "unasa" ∷ t) z.words })

  called_only : (n : CallName) (ws : List (List ℕ)) (x : Call × List (List ℕ)) → called_at nodes n ws ≡ Ok x → Means One call_words x.0 (call_word n ∷ ws)
  called_only call.Asa ws x e = named_only (codes "asa") RegisterAsa (λ n h. h) (λ n. refl) ws x e
  called_only call.Unasa ws x e = unasa_only ws x e
  called_only call.Objective ws x e = objective_call_only ws x e
  called_only call.Unobjective ws x e = named_only (codes "unobjective") DeregisterObjective (λ n h. h) (λ n. refl) ws x e
  called_only call.Discover ws x e = discover_only ws x e
  called_only call.Request ws x e = request_only ws x e
  called_only call.Listen ws x e = named_only (codes "listen") ListenNegotiate (λ n h. h) (λ n. refl) ws x e
  called_only call.Unlisten ws x e = named_only (codes "unlisten") StopListenNegotiate (λ n h. h) (λ n. refl) ws x e
  called_only call.Step ws x e = step_only ws x e
  called_only call.Wait ws x e = wait_only ws x e
  called_only call.Accept ws x e = handled_only (codes "accept") accepting (λ n h. (h, tt)) (λ n. refl) ws x e
  called_only call.Decline ws x e = decline_only ws x e
  called_only call.Invalid ws x e = invalid_only ws x e
  called_only call.Poll ws x e = handled_only (codes "poll") Poll (λ n h. h) (λ n. refl) ws x e
  called_only call.Synchronize ws x e = synchronize_only ws x e
  called_only call.Offer ws x e = offer_only ws x e
  called_only call.Unoffer ws x e = named_only (codes "unoffer") StopListenSynchronize (λ n h. h) (λ n. refl) ws x e
  called_only call.Flood ws x e = flood_only ws x e
  called_only call.Floods ws x e = named_only (codes "floods") GetFlood (λ n h. h) (λ n. refl) ws x e
  called_only call.Expire ws x e = expire_only ws x e

  pub call_only : (ws : List (List ℕ)) (x : Call × List (List ℕ)) → call_at nodes ws ≡ Ok x → Means One call_words x.0 ws
  unfolding call_at
  call_only ws x e =
      let a = taken read_call_name _ ws x e in
      let w = called_only a.first a.rest x a.more in
      record { ranges = w.ranges; spelled = a.parts ∙ w.spelled }

  -- ---- found

  objective_call_found : (name : List ℕ) (flags : ℕ) → One (RegisterObjective name flags) → objective_call_at (text_word name ∷ decimal flags ∷ []) ≡ Ok (RegisterObjective name flags, [])
  unfolding objective_call_at
  objective_call_found name flags h = rw (texts_read.found name h.0, read_flags.found flags h.1) refl

  discover_found : (name : List ℕ) (kind : Kind) (loops : ℕ) (timeout : ℕ) → One (Discover name kind loops timeout) → discover_at (text_word name ∷ kind_word kind ∷ decimal loops ∷ decimal timeout ∷ []) ≡ Ok (Discover name kind loops timeout, [])
  unfolding discover_at
  discover_found name kind loops timeout h = rw (texts_read.found name h.0, read_kind.found kind tt, read8.found loops (within8 h.1), read32.found timeout (within32 h.2)) refl

  request_found : (name : List ℕ) (value : DataItem) (loops : ℕ) (timeout : ℕ) (dry : Bool) (peer : Locator) → One (RequestNegotiate name value loops timeout dry peer) → request_at nodes (text_word name ∷ value_word value ∷ decimal loops ∷ decimal timeout ∷ dry_word dry ∷ peer_word peer ∷ []) ≡ Ok (RequestNegotiate name value loops timeout dry peer, [])
  unfolding request_at
  request_found name value loops timeout dry peer h = rw (texts_read.found name h.0, values_read.found value h.1, read8.found loops (within8 h.2), read32.found timeout (within32 h.3), read_dry.found dry tt, (read_peer nodes few).found peer h.4) refl

  step_found : (handle : Handle) (value : DataItem) → One (NegotiateStep handle value) → step_at (decimal handle.number ∷ value_word value ∷ []) ≡ Ok (NegotiateStep handle value, [])
  unfolding step_at
  step_found handle value h = rw (read_handle.found handle h.0, values_read.found value h.1) refl

  wait_found : (handle : Handle) (millis : ℕ) → One (NegotiateWait handle millis) → wait_at (decimal handle.number ∷ decimal millis ∷ []) ≡ Ok (NegotiateWait handle millis, [])
  unfolding wait_at
  wait_found handle millis h = rw (read_handle.found handle h.0, read32.found millis (within32 h.1)) refl

  invalid_found : (handle : Handle) (detail : Option DataItem) → One (SendInvalid handle detail) → invalid_at (decimal handle.number ∷ or_dash value_word detail ∷ []) ≡ Ok (SendInvalid handle detail, [])
  unfolding invalid_at
  invalid_found handle detail h = rw (read_handle.found handle h.0, read_maybe.found detail h.1) refl

  synchronize_found : (name : List ℕ) (loops : ℕ) (timeout : ℕ) (peer : Locator) → One (Synchronize name loops timeout peer) → synchronize_at nodes (text_word name ∷ decimal loops ∷ decimal timeout ∷ peer_word peer ∷ []) ≡ Ok (Synchronize name loops timeout peer, [])
  unfolding synchronize_at
  synchronize_found name loops timeout peer h = rw (texts_read.found name h.0, read8.found loops (within8 h.1), read32.found timeout (within32 h.2), (read_peer nodes few).found peer h.3) refl

  offer_found : (name : List ℕ) (value : DataItem) → One (ListenSynchronize name value) → offer_at (text_word name ∷ value_word value ∷ []) ≡ Ok (ListenSynchronize name value, [])
  unfolding offer_at
  offer_found name value h = rw (texts_read.found name h.0, values_read.found value h.1) refl

  flood_found : (name : List ℕ) (value : DataItem) (ttl : ℕ) (loops : ℕ) → One (Flood name value ttl loops) → flood_at (text_word name ∷ value_word value ∷ decimal ttl ∷ decimal loops ∷ []) ≡ Ok (Flood name value ttl loops, [])
  unfolding flood_at
  flood_found name value ttl loops h = rw (texts_read.found name h.0, values_read.found value h.1, read32.found ttl (within32 h.2), read8.found loops (within8 h.3)) refl

  expire_found : (name : List ℕ) (initiator : Address) → One (ExpireFlood name initiator) → expire_at nodes (text_word name ∷ initiator_word initiator ∷ []) ≡ Ok (ExpireFlood name initiator, [])
  unfolding expire_at
  expire_found name initiator h = rw (texts_read.found name h.0, (read_initiator nodes few).found initiator h.1) refl

  refused_found : (handle : Handle) → IsNamed handle → decline_at (decimal handle.number ∷ []) ≡ Ok (EndNegotiate handle (Decline None), [])
  unfolding decline_at
  refused_found handle h = rw (read_handle.found handle h) refl

  reason_found : (handle : Handle) (reason : List ℕ) → IsNamed handle → IsUtf8 reason → decline_at (decimal handle.number ∷ text_word reason ∷ []) ≡ Ok (EndNegotiate handle (Decline (Some reason)), [])
  unfolding decline_at
  reason_found handle reason h u = rw (read_handle.found handle h, texts_read.found reason u) refl

  begun : (n : CallName) (ws : List (List ℕ)) → call_at nodes (call_word n ∷ ws) ≡ called_at nodes n ws
  unfolding call_at
  begun n ws = rw (call_again n) refl

  made : {A : Type 0} (make : A → Call) (r : Parsed A) (a : A) → r ≡ Ok (a, []) → (r >>= as_made make) ≡ Ok (make a, [])
  made {A = A} make r a e = ap (λ (s : Parsed A). s >>= as_made make) e

  pub call_found : (c : Call) → One c → call_at nodes (call_words c) ≡ Ok (c, [])
  call_found (RegisterAsa name) h = begun call.Asa (text_word name ∷ []) ∙ made RegisterAsa (name_at (text_word name ∷ [])) name (name_found name h)
  call_found (DeregisterObjective name) h = begun call.Unobjective (text_word name ∷ []) ∙ made DeregisterObjective (name_at (text_word name ∷ [])) name (name_found name h)
  call_found (ListenNegotiate name) h = begun call.Listen (text_word name ∷ []) ∙ made ListenNegotiate (name_at (text_word name ∷ [])) name (name_found name h)
  call_found (StopListenNegotiate name) h = begun call.Unlisten (text_word name ∷ []) ∙ made StopListenNegotiate (name_at (text_word name ∷ [])) name (name_found name h)
  call_found (StopListenSynchronize name) h = begun call.Unoffer (text_word name ∷ []) ∙ made StopListenSynchronize (name_at (text_word name ∷ [])) name (name_found name h)
  call_found (GetFlood name) h = begun call.Floods (text_word name ∷ []) ∙ made GetFlood (name_at (text_word name ∷ [])) name (name_found name h)
  call_found DeregisterAsa h = begun call.Unasa []
  call_found (RegisterObjective name flags) h = begun call.Objective _ ∙ objective_call_found name flags h
  call_found (Discover name kind loops timeout) h = begun call.Discover _ ∙ discover_found name kind loops timeout h
  call_found (RequestNegotiate name value loops timeout dry peer) h = begun call.Request _ ∙ request_found name value loops timeout dry peer h
  call_found (NegotiateStep handle value) h = begun call.Step _ ∙ step_found handle value h
  call_found (NegotiateWait handle millis) h = begun call.Wait _ ∙ wait_found handle millis h
  call_found (SendInvalid handle detail) h = begun call.Invalid _ ∙ invalid_found handle detail h
  call_found (Synchronize name loops timeout peer) h = begun call.Synchronize _ ∙ synchronize_found name loops timeout peer h
  call_found (ListenSynchronize name value) h = begun call.Offer _ ∙ offer_found name value h
  call_found (Flood name value ttl loops) h = begun call.Flood _ ∙ flood_found name value ttl loops h
  call_found (ExpireFlood name initiator) h = begun call.Expire _ ∙ expire_found name initiator h
  call_found (Poll handle) h = begun call.Poll (decimal handle.number ∷ []) ∙ made Poll (session_at (decimal handle.number ∷ [])) handle (session_found handle h)
  call_found (EndNegotiate handle Accept) h = begun call.Accept (decimal handle.number ∷ []) ∙ made accepting (session_at (decimal handle.number ∷ [])) handle (session_found handle h.0)
  call_found (EndNegotiate handle (Decline None)) h = begun call.Decline (decimal handle.number ∷ []) ∙ refused_found handle h.0
  call_found (EndNegotiate handle (Decline (Some reason))) h = begun call.Decline (decimal handle.number ∷ text_word reason ∷ []) ∙ reason_found handle reason h.0 h.1
