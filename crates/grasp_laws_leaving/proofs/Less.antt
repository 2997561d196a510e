-- A node of which some sessions have left, with their streams closing.
use Rattle.std.proofs.Common.{◌≡◌, ◌≢◌, ◌==◌, ◌⊎◌, inl, inr, ℕ, zero, suc, Bool, true, false, cond, List, [], ◌∷◌, Option, None, Some, slice_set, slice_index_or, refl, sym, ap, ◌∙◌, subst}
use Rattle.std.proofs.lemmas.Bool.{eqb-true}
use Rattle.std.proofs.lemmas.Bool.Decides.{eqb_tells}
use Rattle.std.proofs.lemmas.List.{get_or-set_other}
use Rattle.std.proofs.lemmas.Option.{none-some, same_Some}
use Rattle.grasp_laws_leaving.proofs.Listed.{IsOf, AreOf}
use Rattle.grasp_laws_leaving.proofs.OtherRecords.{others_closing}
use Rattle.grasp_laws_leaving.proofs.Turns.{Each, Apart, places_by, all_still}
use Rattle.grasp_laws_leaving.specs.Ends.{shut}
use Rattle.grasp_laws_node.proofs.Consistent.Streams.{record_set}
use Rattle.grasp_laws_session.proofs.Runs.{set_some}
use Rattle.grasp_laws_session.proofs.Streams.{is_least}
use Rattle.grasp_model_node.specs.Declines.{Declining, may_decline, declined, removed, after_decline, after_declines}
use Rattle.grasp_model_node.specs.Moves.{with_sessions, begin_closing, queue_up}
use Rattle.grasp_model_node.specs.Node.{NodeState}
use Rattle.grasp_model_node.specs.RegistryCalls.{close_stream, without_session, without_sessions}
use Rattle.grasp_model_node.specs.Streams.{StreamRecord, StreamsState, closing, record_of}
use Rattle.grasp_session.proofs.Tables.{state_slot}
use Rattle.grasp_session.specs.Says.{IsAt}
use Rattle.grasp_session.specs.Sessions.{SessionState, Sessions, session_at, after_remove, owner_reply, stream_reply}
use Rattle.grasp_types.specs.declared.session.Handle.{Handle}

-- ---- sessions of one kind leave

-- one leaves
record IsOneLess (Q : SessionState → Type 0) (n m : NodeState) : Type 0 where
  place : ℕ
  session : SessionState
  at : IsAt n.sessions place session
  its : Q session
  places : m.sessions.places ≡ slice_set n.sessions.places place None
  streams : m.streams ≡ closing n.streams session.stream

-- some have left
pub record Less (Q : SessionState → Type 0) (n m : NodeState) : Type 0 where
  pub stay : (place : ℕ) (x : SessionState) → IsAt n.sessions place x → (Q x → ⊥) → IsAt m.sessions place x
  pub within : (place : ℕ) (x : SessionState) → IsAt m.sessions place x → IsAt n.sessions place x
  pub closed : (place : ℕ) (x : SessionState) (r : StreamRecord) → IsAt n.sessions place x → (IsAt m.sessions place x → ⊥) → record_of n.streams x.stream ≡ Some r → record_of m.streams x.stream ≡ Some (shut r)
  pub others : (stream : ℕ) → ((place : ℕ) (x : SessionState) → IsAt n.sessions place x → Q x → stream ≢ x.stream) → record_of m.streams stream ≡ record_of n.streams stream
  -- each record is as it was or closing
  pub either : (stream : ℕ) (r : StreamRecord) → record_of n.streams stream ≡ Some r → (record_of m.streams stream ≡ Some r) ⊎ (record_of m.streams stream ≡ Some (shut r))

pub less_same : (Q : SessionState → Type 0) (n m : NodeState) → m.sessions ≡ n.sessions → m.streams ≡ n.streams → Less Q n m
less_same Q n m s t = record {
  stay = λ place x at other. subst (λ (z : Sessions). IsAt z place x) (sym s) at;
  within = λ place x at. subst (λ (z : Sessions). IsAt z place x) s at;
  closed = λ place x r at gone e. absurd (gone (subst (λ (z : Sessions). IsAt z place x) (sym s) at));
  others = λ stream f. ap (λ (k : StreamsState). record_of k stream) t;
  either = λ stream r e. inl (ap (λ (k : StreamsState). record_of k stream) t ∙ e);
}

pub less_both : (Q : SessionState → Type 0) (n m k : NodeState) → Less Q n m → Less Q m k → Less Q n k
less_both Q n m k a b = record {
  stay = λ place x at other. b.stay place x (a.stay place x at other) other;
  within = λ place x at. a.within place x (b.within place x at);
  closed = closed;
  others = λ stream f. b.others stream (λ place x at q. f place x (a.within place x at) q) ∙ a.others stream f;
  either = λ stream r e. after_both stream r (a.either stream r e);
} where
  shut_stays : (stream : ℕ) (r : StreamRecord) → record_of m.streams stream ≡ Some (shut r) → record_of k.streams stream ≡ Some (shut r)
  shut_stays stream r e = by (b.either stream (shut r) e) where
    by : (record_of k.streams stream ≡ Some (shut r)) ⊎ (record_of k.streams stream ≡ Some (shut (shut r))) → record_of k.streams stream ≡ Some (shut r)
    by (inl f) = f
    by (inr f) = f

  after_both : (stream : ℕ) (r : StreamRecord) → (record_of m.streams stream ≡ Some r) ⊎ (record_of m.streams stream ≡ Some (shut r)) → (record_of k.streams stream ≡ Some r) ⊎ (record_of k.streams stream ≡ Some (shut r))
  after_both stream r (inl e) = b.either stream r e
  after_both stream r (inr e) = inr (shut_stays stream r e)

  closed : (place : ℕ) (x : SessionState) (r : StreamRecord) → IsAt n.sessions place x → (IsAt k.sessions place x → ⊥) → record_of n.streams x.stream ≡ Some r → record_of k.streams x.stream ≡ Some (shut r)
  closed place x r at gone e = by_state (slice_index_or m.sessions.places place None) refl where
    still : IsAt m.sessions place x → (record_of m.streams x.stream ≡ Some r) ⊎ (record_of m.streams x.stream ≡ Some (shut r)) → record_of k.streams x.stream ≡ Some (shut r)
    still there (inl f) = b.closed place x r there gone f
    still there (inr f) = shut_stays x.stream r f

    by_state : (o : Option SessionState) → slice_index_or m.sessions.places place None ≡ o → record_of k.streams x.stream ≡ Some (shut r)
    by_state None f = shut_stays x.stream r (a.closed place x r at (λ there. none-some x (sym f ∙ there)) e)
    by_state (Some y) f =
        let same : y ≡ x = same_Some y x (sym (a.within place y f) ∙ at) in
        still (subst (λ (w : SessionState). IsAt m.sessions place w) same f) (a.either x.stream r e)

less_one : (Q : SessionState → Type 0) (n m : NodeState) → IsOneLess Q n m → Less Q n m
less_one Q n m o = record { stay = stay; within = within; closed = closed; others = λ stream f. leaves stream (f o.place o.session o.at o.its); either = either } where
  record_at : (stream : ℕ) → record_of m.streams stream ≡ record_of (closing n.streams o.session.stream) stream
  record_at stream = ap (λ (t : StreamsState). record_of t stream) o.streams

  shuts : (stream : ℕ) (r : StreamRecord) → stream ≡ o.session.stream → record_of n.streams stream ≡ Some r → record_of m.streams stream ≡ Some (shut r)
  shuts stream r same e = record_at stream ∙ subst (λ (s : ℕ). record_of (closing n.streams s) stream ≡ Some (shut r)) same (record_set n.streams stream None r e)

  leaves : (stream : ℕ) → stream ≢ o.session.stream → record_of m.streams stream ≡ record_of n.streams stream
  leaves stream other = record_at stream ∙ others_closing o.session.stream stream n.streams other

  elsewhere : (place : ℕ) (x : SessionState) → place ≢ o.place → IsAt n.sessions place x → IsAt m.sessions place x
  elsewhere place x other at = ap (λ (l : List (Option SessionState)). slice_index_or l place None) o.places ∙ (get_or-set_other n.sessions.places o.place place None None other ∙ at)

  is_it : (place : ℕ) (x : SessionState) → place ≡ o.place → IsAt n.sessions place x → o.session ≡ x
  is_it place x same at = same_Some o.session x (sym o.at ∙ subst (λ (k : ℕ). IsAt n.sessions k x) same at)

  stay : (place : ℕ) (x : SessionState) → IsAt n.sessions place x → (Q x → ⊥) → IsAt m.sessions place x
  stay place x at other = by (eqb_tells place o.place) where
    by : (((place == o.place) ≡ true) × (place ≡ o.place)) ⊎ (((place == o.place) ≡ false) × (place ≢ o.place)) → IsAt m.sessions place x
    by (inl i) = absurd (other (subst Q (is_it place x i.1 at) o.its))
    by (inr i) = elsewhere place x i.1 at

  within : (place : ℕ) (x : SessionState) → IsAt m.sessions place x → IsAt n.sessions place x
  within place x at = by (set_some n.sessions.places o.place None place x (subst (λ (l : List (Option SessionState)). slice_index_or l place None ≡ Some x) o.places at)) where
    by : ((place ≡ o.place) × (None ≡ Some x)) ⊎ ((place ≢ o.place) × (slice_index_or n.sessions.places place None ≡ Some x)) → IsAt n.sessions place x
    by (inl i) = absurd (none-some x i.1)
    by (inr i) = i.1

  closed : (place : ℕ) (x : SessionState) (r : StreamRecord) → IsAt n.sessions place x → (IsAt m.sessions place x → ⊥) → record_of n.streams x.stream ≡ Some r → record_of m.streams x.stream ≡ Some (shut r)
  closed place x r at gone e = by (eqb_tells place o.place) where
    by : (((place == o.place) ≡ true) × (place ≡ o.place)) ⊎ (((place == o.place) ≡ false) × (place ≢ o.place)) → record_of m.streams x.stream ≡ Some (shut r)
    by (inl i) = shuts x.stream r (sym (ap (λ (y : SessionState). y.stream) (is_it place x i.1 at))) e
    by (inr i) = absurd (gone (elsewhere place x i.1 at))

  either : (stream : ℕ) (r : StreamRecord) → record_of n.streams stream ≡ Some r → (record_of m.streams stream ≡ Some r) ⊎ (record_of m.streams stream ≡ Some (shut r))
  either stream r e = by (eqb_tells stream o.session.stream) where
    by : (((stream == o.session.stream) ≡ true) × (stream ≡ o.session.stream)) ⊎ (((stream == o.session.stream) ≡ false) × (stream ≢ o.session.stream))
        → (record_of m.streams stream ≡ Some r) ⊎ (record_of m.streams stream ≡ Some (shut r))
    by (inl i) = inr (shuts stream r i.1 e)
    by (inr i) = inl (leaves stream i.1 ∙ e)

-- ---- by declines

decline_streams : (n : NodeState) (d : Declining) (b : Bool) → (begin_closing (cond b (declined n d) (removed n d.handle)) d.stream).streams ≡ closing n.streams d.stream
unfolding with_sessions begin_closing queue_up
decline_streams n d true = refl
decline_streams n d false = refl

one_declined : (Q : SessionState → Type 0) (n : NodeState) (d : Declining) (x : SessionState) → IsOf n.sessions d x → Q x → IsOneLess Q n (after_decline n d)
one_declined Q n d x of q = record {
  place = d.handle.place;
  session = x;
  at = state_slot n.sessions d.handle x of.at;
  its = q;
  places = places_by n d x (may_decline n d.handle) of;
  streams = decline_streams n d (may_decline n d.handle) ∙ ap (closing n.streams) of.stream;
}

emptied : (n : NodeState) (d : Declining) (x : SessionState) → IsOf n.sessions d x → (y : SessionState) → IsAt (after_decline n d).sessions d.handle.place y → ⊥
emptied n d x of y at =
    by (set_some n.sessions.places d.handle.place None d.handle.place y (subst (λ (l : List (Option SessionState)). slice_index_or l d.handle.place None ≡ Some y) (places_by n d x (may_decline n d.handle) of) at)) where
      by : ((d.handle.place ≡ d.handle.place) × (None ≡ Some y)) ⊎ ((d.handle.place ≢ d.handle.place) × (slice_index_or n.sessions.places d.handle.place None ≡ Some y)) → ⊥
      by (inl i) = none-some y i.1
      by (inr i) = i.0 refl

-- no session is left where a decline's was
abbrev pub IsEmptied : NodeState → Declining → Type 0
IsEmptied m d = (y : SessionState) → IsAt m.sessions d.handle.place y → ⊥

pub record DeclinesLess (Q : SessionState → Type 0) (n m : NodeState) (ds : List Declining) : Type 0 where
  pub less : Less Q n m
  pub gone : Each (IsEmptied m) ds

pub declines_less : (Q : SessionState → Type 0) (n : NodeState) (ds : List Declining) (xs : List SessionState) → AreOf n.sessions ds xs → Each Q xs → Apart ds → DeclinesLess Q n (after_declines n ds) ds
unfolding after_declines
declines_less Q n [] [] of q apart = record { less = less_same Q n n refl refl; gone = tt }
declines_less Q n [] (x ∷ xs) of q apart = absurd of
declines_less Q n (d ∷ ds) [] of q apart = absurd of
declines_less Q n (d ∷ ds) (x ∷ xs) of q apart =
    let rest = declines_less Q (after_decline n d) ds xs (all_still n.sessions (after_decline n d).sessions d ds xs (places_by n d x (may_decline n d.handle) of.0) apart.0 of.1) q.1 apart.1 in
    record {
      less = less_both Q n (after_decline n d) (after_declines (after_decline n d) ds) (less_one Q n (after_decline n d) (one_declined Q n d x of.0 q.0)) rest.less;
      gone = ((λ y at. emptied n d x of.0 y (rest.less.within d.handle.place y at)), rest.gone);
    }

-- ---- by an agent's leaving

closes_same : (n : NodeState) (o : Option ℕ) → (close_stream n o).sessions ≡ n.sessions
unfolding begin_closing
closes_same n None = refl
closes_same n (Some stream) = refl

closes_stream : (n : NodeState) (o : Option ℕ) (stream : ℕ) → o ≡ Some stream → (close_stream n o).streams ≡ closing n.streams stream
unfolding begin_closing
closes_stream n None stream e = absurd (none-some stream e)
closes_stream n (Some other) stream e = ap (closing n.streams) (same_Some other stream e)

sets : (n : NodeState) (z : Sessions) → ((with_sessions n z).sessions ≡ z) × ((with_sessions n z).streams ≡ n.streams)
unfolding with_sessions
sets n z = (refl, refl)

stream_is : (z : Sessions) (h : Handle) (x : SessionState) → session_at z h ≡ Some x → stream_reply z h ≡ Some x.stream
stream_is z h x e = rw e refl

removed_places : (z : Sessions) (h : Handle) (x : SessionState) → session_at z h ≡ Some x → (after_remove z h).places ≡ slice_set z.places h.place None
removed_places z h x e = rw e refl

one_leaves : (Q : SessionState → Type 0) (n : NodeState) (h : Handle) (x : SessionState) → session_at n.sessions h ≡ Some x → Q x → IsOneLess Q n (without_session n (Some h))
one_leaves Q n h x e q =
    let left = with_sessions n (after_remove n.sessions h) in
    record {
      place = h.place;
      session = x;
      at = state_slot n.sessions h x e;
      its = q;
      places = ap (λ (z : Sessions). z.places) (closes_same left (stream_reply n.sessions h) ∙ (sets n (after_remove n.sessions h)).0) ∙ removed_places n.sessions h x e;
      streams = closes_stream left (stream_reply n.sessions h) x.stream (stream_is n.sessions h x e) ∙ ap (λ (t : StreamsState). closing t x.stream) (sets n (after_remove n.sessions h)).1;
    }

session_less : (Q : SessionState → Type 0) (n : NodeState) (asa : ℕ) → ((x : SessionState) → x.owner ≡ asa → Q x) → (o : Option Handle) → owner_reply n.sessions asa ≡ o → Less Q n (without_session n o)
session_less Q n asa own None e = less_same Q n n refl refl
session_less Q n asa own (Some h) e =
    let l = is_least n.sessions (λ x. x.owner == asa) h e in
    less_one Q n (without_session n (Some h)) (one_leaves Q n h l.state l.at (own l.state (eqb-true l.state.owner asa l.passes)))

pub sessions_less : (Q : SessionState → Type 0) (count : ℕ) (n : NodeState) (asa : ℕ) → ((x : SessionState) → x.owner ≡ asa → Q x) → Less Q n (without_sessions count n asa)
unfolding without_sessions
sessions_less Q zero n asa own = less_same Q n n refl refl
sessions_less Q (suc count) n asa own =
    let m : NodeState = without_sessions count n asa in
    less_both Q n m (without_session m (owner_reply m.sessions asa)) (sessions_less Q count n asa own) (session_less Q m asa own (owner_reply m.sessions asa) refl)
