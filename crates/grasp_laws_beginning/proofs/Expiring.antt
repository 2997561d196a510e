-- What the beginning of a step ends, and that it leaves everything else.
use Rattle.std.proofs.Common.{◌≡◌, ◌≢◌, ℕ, zero, suc, ◌≤◌, ◌==◌, ◌<◌, max, nat_le, ◌⊎◌, inl, inr, Bool, true, false, cond, ◌&&◌, Option, None, Some, refl, sym, ap, ◌∙◌, subst}
use Rattle.std.specs.Prelude.{slice_index_or}
use Rattle.std.proofs.lemmas.Bool.{and_parts}
use Rattle.std.proofs.lemmas.Bool.Decides.{eqb_tells, leb_tells}
use Rattle.std.proofs.lemmas.List.{get_or-set_other, get_or-set_same}
use Rattle.std.proofs.lemmas.Option.{same_Some}
use Rattle.grasp_laws_beginning.specs.Expiring.{BeginningsExpire}
use Rattle.grasp_laws_leaving.proofs.OtherRecords.{others_closing}
use Rattle.grasp_laws_node.proofs.Remembered.{begun}
use Rattle.grasp_laws_node.specs.Beginnings.{IsDue}
use Rattle.grasp_laws_session.proofs.Runs.{at_below}
use Rattle.grasp_laws_session.proofs.Streams.{oldest_least}
use Rattle.grasp_model_node.specs.Begin.{expire_on, expired}
use Rattle.grasp_model_node.specs.Moves.{with_reading, with_sessions, begin_closing}
use Rattle.grasp_model_node.specs.Node.{NodeState}
use Rattle.grasp_model_node.specs.Streams.{StreamsState, record_of}
use Rattle.grasp_session.specs.Says.{IsAt, IsLeast, LookUpSays}
use Rattle.grasp_session.specs.Sessions.{SessionState, Sessions, with_transcript, found, stream_of, with_place, left, is_leaving, changed, due, mark_at, expire_reply, after_expire}
use Rattle.grasp_session.specs.Transcript.{Expired, is_going, deadline_of, with_mark}
use Rattle.grasp_types.specs.declared.session.Handle.{Handle}

-- ---- one session times out

-- what is at a place
abbrev at_slot : Sessions → ℕ → Option SessionState
at_slot z place = slice_index_or z.places place None

-- the one that is due
abbrev IsNext : Sessions → ℕ → Handle → Type 0
IsNext z now h = IsLeast z (λ x. is_going x.view && nat_le (deadline_of x.view) now) h

next_due : (z : Sessions) (now : ℕ) (h : Handle) → due z now ≡ Some h → IsNext z now h
next_due z now h e =
    subst (LookUpSays z (λ x. is_going x.view && nat_le (deadline_of x.view) now)) e (oldest_least z (λ x. is_going x.view && nat_le (deadline_of x.view) now))

-- as it times out
abbrev marked : ℕ → SessionState → SessionState
marked now x = with_transcript x (with_mark x.view (Expired now))

module _ (z : Sessions) (now : ℕ) (h : Handle) (m : IsNext z now h) where
  parts : (is_going m.state.view ≡ true) × (nat_le (deadline_of m.state.view) now ≡ true)
  parts = let p = and_parts (is_going m.state.view) (nat_le (deadline_of m.state.view) now) m.passes in (p.0, p.1)

  is_due : IsDue now m.state
  is_due = by (leb_tells (deadline_of m.state.view) now) where
    by : ((nat_le (deadline_of m.state.view) now ≡ true) × (deadline_of m.state.view ≤ now)) ⊎ ((nat_le (deadline_of m.state.view) now ≡ false) × (now < deadline_of m.state.view)) → IsDue now m.state
    by (inl t) = (parts.0, t.1)
    by (inr t) = let clash : true ≡ false = sym parts.1 ∙ t.0 in absurd (cc)

  expires : due z now ≡ Some h → after_expire z now ≡ changed z h (marked now m.state)
  expires e = ap (mark_at z (Expired now)) e ∙ rw (m.at, parts.0) refl

  elsewhere : (place : ℕ) (b : Bool) → place ≢ h.place → at_slot (cond b (left z h (marked now m.state)) (with_place z h.place (Some (marked now m.state)))) place ≡ at_slot z place
  elsewhere place true n = get_or-set_other z.places h.place place None None n
  elsewhere place false n = get_or-set_other z.places h.place place (Some (marked now m.state)) None n

  here : (b : Bool) → at_slot (cond b (left z h (marked now m.state)) (with_place z h.place (Some (marked now m.state)))) h.place ≡ cond b None (Some (marked now m.state))
  here true = get_or-set_same z.places h.place None None (at_below z.places h.place m.state m.place)
  here false = get_or-set_same z.places h.place (Some (marked now m.state)) None (at_below z.places h.place m.state m.place)

  -- what is there where it was doesn't go on
  over : (b : Bool) (y : SessionState) → cond b None (Some (marked now m.state)) ≡ Some y → is_going y.view ≡ true → ⊥
  over true y e going = cc
  over false y e going =
      let same : marked now m.state ≡ y = same_Some (marked now m.state) y e in
      let ended : is_going y.view ≡ false = ap (λ (k : SessionState). is_going k.view) (sym same) in
      cc

  -- a session that goes on was there before
  was : (place : ℕ) (y : SessionState) → IsAt (changed z h (marked now m.state)) place y → is_going y.view ≡ true → IsAt z place y
  was place y at going = by (eqb_tells place h.place) where
    by : (((place == h.place) ≡ true) × (place ≡ h.place)) ⊎ (((place == h.place) ≡ false) × (place ≢ h.place)) → IsAt z place y
    by (inl i) = absurd (over (is_leaving (marked now m.state)) y (sym (here (is_leaving (marked now m.state))) ∙ (ap (at_slot (changed z h (marked now m.state))) (sym i.1) ∙ at)) going)
    by (inr i) = sym (elsewhere place (is_leaving (marked now m.state)) i.1) ∙ at

  none_begins : (b : Bool) → (cond b (left z h (marked now m.state)) (with_place z h.place (Some (marked now m.state)))).made ≡ z.made
  none_begins true = refl
  none_begins false = refl

-- ---- as many as are due

-- no session of the stream is due
abbrev NoneDueOn : NodeState → ℕ → Type 0
NoneDueOn n stream = (place : ℕ) (x : SessionState) → IsAt n.sessions place x → IsDue n.reading x → stream ≢ x.stream

-- sessions of the node timed out, and nothing else has changed
record Leaves (n m : NodeState) : Type 0 where
  reading : m.reading ≡ n.reading
  came : (place : ℕ) (y : SessionState) → IsAt m.sessions place y → is_going y.view ≡ true → IsAt n.sessions place y
  streams : (stream : ℕ) → NoneDueOn n stream → record_of m.streams stream ≡ record_of n.streams stream
  made : m.sessions.made ≡ n.sessions.made

leaves_on : (n m : NodeState) (o : Option ℕ) → expire_reply m.sessions m.reading ≡ o → Leaves n m → Leaves n (expire_on m o)
unfolding with_sessions begin_closing
leaves_on n m None e l = l
leaves_on n m (Some closed) e l = by_handle (due m.sessions m.reading) refl e where
  by_handle : (o : Option Handle) → due m.sessions m.reading ≡ o → stream_of (found m.sessions o) ≡ Some closed → Leaves n (expire_on m (Some closed))
  by_handle None f g = absurd (cc)
  by_handle (Some h) f g =
      let k = next_due m.sessions m.reading h f in
      let on : k.state.stream ≡ closed = same_Some k.state.stream closed (sym (ap stream_of k.at) ∙ g) in
      let first : IsAt n.sessions h.place k.state = l.came h.place k.state k.place (parts m.sessions m.reading h k).0 in
      let late : IsDue n.reading k.state = subst (λ (r : ℕ). IsDue r k.state) l.reading (is_due m.sessions m.reading h k) in
      let after : after_expire m.sessions m.reading ≡ changed m.sessions h (marked m.reading k.state) = expires m.sessions m.reading h k f in
      record {
        reading = l.reading;
        came = λ place y at going. l.came place y (was m.sessions m.reading h k place y (subst (λ (z : Sessions). IsAt z place y) after at) going) going;
        streams = λ stream none. others_closing closed stream m.streams (λ same. none h.place k.state first late (same ∙ sym on)) ∙ l.streams stream none;
        made = ap (λ (z : Sessions). z.made) after ∙ (none_begins m.sessions m.reading h k (is_leaving (marked m.reading k.state)) ∙ l.made);
      }

leaves : (k : ℕ) (n : NodeState) → Leaves n (expired k n)
unfolding expired
leaves zero n = record { reading = refl; came = λ place y at going. at; streams = λ stream none. refl; made = refl }
leaves (suc k) n = leaves_on n (expired k n) (expire_reply (expired k n).sessions (expired k n).reading) refl (leaves k n)

-- ---- the beginning

begins : (n b m : NodeState) (reading : ℕ) → Leaves m b → m.sessions ≡ n.sessions → m.streams ≡ n.streams → m.reading ≡ reading
    → (stream : ℕ) → ((place : ℕ) (x : SessionState) → IsAt n.sessions place x → IsDue reading x → stream ≢ x.stream) → record_of b.streams stream ≡ record_of n.streams stream
begins n b m reading l sessions streams same stream none =
    l.streams stream (λ place x at due. none place x (subst (λ (z : Sessions). IsAt z place x) sessions at) (subst (λ (r : ℕ). IsDue r x) same due)) ∙ ap (λ (t : StreamsState). record_of t stream) streams

same_sessions : (n : NodeState) (now : ℕ) → (with_reading n now).sessions ≡ n.sessions
unfolding with_reading
same_sessions n now = refl

same_streams : (n : NodeState) (now : ℕ) → (with_reading n now).streams ≡ n.streams
unfolding with_reading
same_streams n now = refl

same_reading : (n : NodeState) (now : ℕ) → (with_reading n now).reading ≡ max n.reading now
unfolding with_reading
same_reading n now = refl

pub beginnings_expire : BeginningsExpire
beginnings_expire n now =
    let b = begun n now in
    let l : Leaves (with_reading n now) (expired 64 (with_reading n now)) = leaves 64 (with_reading n now) in
    record {
      discoveries = b.discoveries;
      floods = b.floods;
      streams = λ stream none. ap (λ (t : StreamsState). record_of t stream) b.streams
          ∙ begins n (expired 64 (with_reading n now)) (with_reading n now) (max n.reading now) l (same_sessions n now) (same_streams n now) (same_reading n now) stream none;
      made = ap (λ (z : Sessions). z.made) b.sessions ∙ (l.made ∙ ap (λ (z : Sessions). z.made) (same_sessions n now));
    }
