-- What becomes of the session of one stream, and how the sessions hold together with the streams.
use Rattle.std.proofs.Common.{◌≡◌, ◌≢◌, ℕ, ◌%◌, Bool, true, false, cond, not, ◌&&◌, ◌==◌, nat_le, List, ◌∷◌, ◌⊎◌, inl, inr, Option, None, Some, IsSome, slice_set, refl, sym, ap, ◌∙◌, subst}
use Rattle.std.proofs.lemmas.Bool.{true≢false, eqb-true, eqb-false}
use Rattle.std.proofs.lemmas.Bool.Decides.{eqb_tells}
use Rattle.grasp_asa.specs.Answers.{listener_of}
use Rattle.grasp_asa.specs.Registrations.{Registrations}
use Rattle.grasp_laws_session.proofs.Runs.{set_some, some_state, calls_in_order}
use Rattle.grasp_laws_session.proofs.Streams.{is_least, none_is_left, free_stream}
use Rattle.grasp_session.proofs.Tables.{state_slot}
use Rattle.grasp_session.specs.Runs.{Reached, AreInOrder}
use Rattle.grasp_session.specs.Says.{IsAt}
use Rattle.grasp_session.specs.Sessions.{SessionState, Sessions, with_transcript, session_at, found, with_place, left, is_leaving, changed, on_stream, due, mark_at, after_mark, stream_of, expire_reply, after_expire, state_reply}
use Rattle.grasp_session.specs.Transcript.{Mark, Expired, session_of, request_of, is_going, deadline_of, with_mark}
use Rattle.grasp_types.specs.declared.session.Handle.{Handle}
use Rattle.grasp_wire.specs.Cutter.{Past}
use Rattle.grasp_laws_node.specs.Alone.{OthersStay}
use Rattle.grasp_model_node.specs.Streams.{StreamsState, past_of}
use Rattle.grasp_laws_node.proofs.OthersAlone.{others_self, set_others, no_session, changed_others, marks_state}
use Rattle.grasp_laws_node.proofs.Consistent.Streams.{OthersPast}

-- ---- sessions and streams

-- a live session without an outcome lies on this stream
pub record Goes (z : Sessions) (stream : ℕ) : Type 0 where
  pub place : ℕ
  pub session : SessionState
  pub at : IsAt z place session
  pub on : session.stream ≡ stream
  pub going : is_going session.view ≡ true

-- the sessions and the streams hold together
pub record AreTied (z : Sessions) (s : StreamsState) : Type 0 where
  pub opens : (place : ℕ) (x : SessionState) → IsAt z place x → is_going x.view ≡ true → IsSome (past_of s x.stream)
  pub dialled : (stream : ℕ) (past : Past) → stream % 2 ≡ 0 → past_of s stream ≡ Some past → Goes z stream
  pub ended : (place : ℕ) (x : SessionState) → IsAt z place x → is_going x.view ≡ false → past_of s x.stream ≡ None

-- the sessions and the streams hold together, leaving this stream aside
pub record TiedBut (stream : ℕ) (z : Sessions) (s : StreamsState) : Type 0 where
  pub opens : (place : ℕ) (x : SessionState) → IsAt z place x → x.stream ≢ stream → is_going x.view ≡ true → IsSome (past_of s x.stream)
  pub dialled : (other : ℕ) (past : Past) → other ≢ stream → other % 2 ≡ 0 → past_of s other ≡ Some past → Goes z other
  pub ended : (place : ℕ) (x : SessionState) → IsAt z place x → x.stream ≢ stream → is_going x.view ≡ false → past_of s x.stream ≡ None

-- no session on this stream goes on
abbrev pub Shut : ℕ → Sessions → Type 0
Shut stream z = (place : ℕ) (x : SessionState) → IsAt z place x → x.stream ≡ stream → is_going x.view ≡ false

-- each does
abbrev pub AllGo : ℕ → Sessions → Type 0
AllGo stream z = (place : ℕ) (x : SessionState) → IsAt z place x → x.stream ≡ stream → is_going x.view ≡ true

abbrev pub Same : ℕ → ℕ → Type 0
Same a b = ((a == b ≡ true) × (a ≡ b)) ⊎ ((a == b ≡ false) × (a ≢ b))

pub but_one : (stream : ℕ) (z : Sessions) (s : StreamsState) → AreTied z s → TiedBut stream z s
but_one stream z s t = record {
  opens = λ place x at n g. t.opens place x at g;
  dialled = λ other past n even e. t.dialled other past even e;
  ended = λ place x at n g. t.ended place x at g;
}

-- what is done to the session and to the record of one stream leaves the others
pub moved : (stream : ℕ) (z w : Sessions) (s t : StreamsState) → TiedBut stream z s → OthersStay stream z w → OthersPast stream s t → TiedBut stream w t
moved stream z w s t b stay past = record {
  opens = λ place x at n g. subst IsSome (sym (past x.stream n)) (b.opens place x ((stay place x n).1 at) n g);
  dialled = λ other p n even e. still other n (b.dialled other p n even (sym (past other n) ∙ e));
  ended = λ place x at n g. past x.stream n ∙ b.ended place x ((stay place x n).1 at) n g;
} where
  still : (other : ℕ) → other ≢ stream → Goes z other → Goes w other
  still other n g = record { place = g.place; session = g.session; at = (stay g.place g.session (λ e. n (sym g.on ∙ e))).0 g.at; on = g.on; going = g.going }

-- the stream is closing, or has no record, and no session on it goes on
pub tied_shut : (stream : ℕ) (z : Sessions) (s : StreamsState) → TiedBut stream z s → Shut stream z → past_of s stream ≡ None → AreTied z s
tied_shut stream z s b shut none = record {
  opens = λ place x at g. opens place x at g (eqb_tells x.stream stream);
  dialled = λ other past even e. dialled other past even e (eqb_tells other stream);
  ended = λ place x at g. ended place x at g (eqb_tells x.stream stream);
} where
  opens : (place : ℕ) (x : SessionState) → IsAt z place x → is_going x.view ≡ true → Same x.stream stream → IsSome (past_of s x.stream)
  opens place x at g (inl i) = absurd (true≢false (sym g ∙ shut place x at i.1))
  opens place x at g (inr i) = b.opens place x at i.1 g

  dialled : (other : ℕ) (past : Past) → other % 2 ≡ 0 → past_of s other ≡ Some past → Same other stream → Goes z other
  dialled other past even e (inl i) = let no : None ≡ Some past = sym none ∙ (ap (past_of s) (sym i.1) ∙ e) in absurd (cc)
  dialled other past even e (inr i) = b.dialled other past i.1 even e

  ended : (place : ℕ) (x : SessionState) → IsAt z place x → is_going x.view ≡ false → Same x.stream stream → past_of s x.stream ≡ None
  ended place x at g (inl i) = ap (past_of s) i.1 ∙ none
  ended place x at g (inr i) = b.ended place x at i.1 g

-- the stream is open, and each session on it goes on
pub tied_open : (stream : ℕ) (z : Sessions) (s : StreamsState) → TiedBut stream z s → AllGo stream z → IsSome (past_of s stream) → (stream % 2 ≡ 0 → Goes z stream) → AreTied z s
tied_open stream z s b all some goes = record {
  opens = λ place x at g. opens place x at g (eqb_tells x.stream stream);
  dialled = λ other past even e. dialled other past even e (eqb_tells other stream);
  ended = λ place x at g. ended place x at g (eqb_tells x.stream stream);
} where
  opens : (place : ℕ) (x : SessionState) → IsAt z place x → is_going x.view ≡ true → Same x.stream stream → IsSome (past_of s x.stream)
  opens place x at g (inl i) = subst (λ k. IsSome (past_of s k)) (sym i.1) some
  opens place x at g (inr i) = b.opens place x at i.1 g

  dialled : (other : ℕ) (past : Past) → other % 2 ≡ 0 → past_of s other ≡ Some past → Same other stream → Goes z other
  dialled other past even e (inl i) = subst (Goes z) (sym i.1) (goes (subst (λ k. k % 2 ≡ 0) i.1 even))
  dialled other past even e (inr i) = b.dialled other past i.1 even e

  ended : (place : ℕ) (x : SessionState) → IsAt z place x → is_going x.view ≡ false → Same x.stream stream → past_of s x.stream ≡ None
  ended place x at g (inl i) = absurd (true≢false (sym (all place x at i.1) ∙ g))
  ended place x at g (inr i) = b.ended place x at i.1 g

-- no session lies on the stream, which this node didn't dial
pub tied_empty : (stream : ℕ) (z : Sessions) (s : StreamsState) → TiedBut stream z s → ((place : ℕ) (x : SessionState) → IsAt z place x → x.stream ≢ stream) → stream % 2 ≢ 0 → AreTied z s
tied_empty stream z s b empty odd = record {
  opens = λ place x at g. b.opens place x at (empty place x at) g;
  dialled = λ other past even e. b.dialled other past (λ same. odd (subst (λ k. k % 2 ≡ 0) same even)) even e;
  ended = λ place x at g. b.ended place x at (empty place x at) g;
}

-- where the same came on each stream, the sessions hold together with these streams too
pub tied_alike : (z : Sessions) (s t : StreamsState) → AreTied z s → ((stream : ℕ) → past_of t stream ≡ past_of s stream) → AreTied z t
tied_alike z s t a same = record {
  opens = λ place x at g. subst IsSome (sym (same x.stream)) (a.opens place x at g);
  dialled = λ stream past even e. a.dialled stream past even (sym (same stream) ∙ e);
  ended = λ place x at g. same x.stream ∙ a.ended place x at g;
}

-- ---- the session of one stream

pub order : (z : Sessions) → Reached z → AreInOrder z
order z r = calls_in_order z r

-- one session lies on a stream
pub one_on : (z : Sessions) → AreInOrder z → (p q : ℕ) (x y : SessionState) → IsAt z p x → IsAt z q y → x.stream ≡ y.stream → x ≡ y
one_on z o p q x y at there e = some_state x y (sym (subst (λ k. IsAt z k x) (o.streams p q x y at there e) at) ∙ there)

-- the session of a place is set
set_shut : (z : Sessions) (made p : ℕ) (gone : List SessionState) (v : Option SessionState) (x : SessionState) → AreInOrder z → IsAt z p x → ((y : SessionState) → v ≡ Some y → is_going y.view ≡ false)
    → Shut x.stream (record { made = made; places = slice_set z.places p v; gone = gone })
set_shut z made p gone v x o at f q y e on = by_case (set_some z.places p v q y e) where
  by_case : ((q ≡ p) × (v ≡ Some y)) ⊎ ((q ≢ p) × IsAt z q y) → is_going y.view ≡ false
  by_case (inl i) = f y i.1
  by_case (inr i) = absurd (i.0 (o.streams q p y x i.1 at on))

-- what lies on the stream of a session that is changed is what it was changed to
pub set_on : (z : Sessions) (made p : ℕ) (gone : List SessionState) (v : Option SessionState) (x : SessionState) → AreInOrder z → IsAt z p x → (q : ℕ) (y : SessionState)
    → IsAt (record { made = made; places = slice_set z.places p v; gone = gone }) q y → y.stream ≡ x.stream → v ≡ Some y
set_on z made p gone v x o at q y e on = by_case (set_some z.places p v q y e) where
  by_case : ((q ≡ p) × (v ≡ Some y)) ⊎ ((q ≢ p) × IsAt z q y) → v ≡ Some y
  by_case (inl i) = i.1
  by_case (inr i) = absurd (i.0 (o.streams q p y x i.1 at on))

pub changed_on : (z : Sessions) (h : Handle) (x y : SessionState) → AreInOrder z → session_at z h ≡ Some x → (q : ℕ) (w : SessionState) → IsAt (changed z h y) q w → w.stream ≡ x.stream → y ≡ w
changed_on z h x y o e q w at on = by_test (is_leaving y) at where
  by_test : (b : Bool) → IsAt (cond b (left z h y) (with_place z h.place (Some y))) q w → y ≡ w
  by_test true there = let no : None ≡ Some w = set_on z z.made h.place (y ∷ z.gone) None x o (state_slot z h x e) q w there on in absurd (cc)
  by_test false there = some_state y w (set_on z z.made h.place z.gone (Some y) x o (state_slot z h x e) q w there on)

-- what is done to a session by which no session on its stream goes on any more
pub record Shuts (stream : ℕ) (z w : Sessions) : Type 0 where
  pub others : OthersStay stream z w
  pub shut : Shut stream w

pub left_shuts : (z : Sessions) (h : Handle) (x y : SessionState) → AreInOrder z → session_at z h ≡ Some x → Shuts x.stream z (left z h y)
left_shuts z h x y o e = record {
  others = set_others x.stream z z.made h.place (y ∷ z.gone) None before (no_session x.stream);
  shut = set_shut z z.made h.place (y ∷ z.gone) None x o at (λ w f. absurd (cc));
} where
  at : IsAt z h.place x
  at = state_slot z h x e

  before : (w : SessionState) → IsAt z h.place w → w.stream ≡ x.stream
  before w there = ap (λ (u : SessionState). u.stream) (some_state w x (sym there ∙ at))

pub changed_shuts : (z : Sessions) (h : Handle) (x y : SessionState) → AreInOrder z → session_at z h ≡ Some x → y.stream ≡ x.stream → is_going y.view ≡ false → Shuts x.stream z (changed z h y)
changed_shuts z h x y o e same g = record {
  others = changed_others x.stream z h x y at refl same;
  shut = by_test (is_leaving y);
} where
  at : IsAt z h.place x
  at = state_slot z h x e

  by_test : (b : Bool) → Shut x.stream (cond b (left z h y) (with_place z h.place (Some y)))
  by_test true = set_shut z z.made h.place (y ∷ z.gone) None x o at (λ w f. absurd (cc))
  by_test false = set_shut z z.made h.place z.gone (Some y) x o at (λ w f. subst (λ (u : SessionState). is_going u.view ≡ false) (some_state y w f) g)

-- a mark
mark_here : (z : Sessions) (mark : Mark) (h : Handle) (x : SessionState) → AreInOrder z → session_at z h ≡ Some x → Shuts x.stream z (mark_at z mark (Some h))
mark_here z mark h x o e = record {
  others = marks_state x.stream z mark h x e at refl;
  shut = rw e (by_test (is_going x.view) refl);
} where
  at : IsAt z h.place x
  at = state_slot z h x e

  by_test : (b : Bool) → is_going x.view ≡ b → Shut x.stream (cond b (changed z h (with_transcript x (with_mark x.view mark))) z)
  by_test true g = (changed_shuts z h x (with_transcript x (with_mark x.view mark)) o e refl refl).shut
  by_test false g = λ place y there on. subst (λ (u : SessionState). is_going u.view ≡ false) (one_on z o h.place place x y at there (sym on)) g

pub mark_shuts : (z : Sessions) (stream : ℕ) (mark : Mark) → AreInOrder z → Shuts stream z (after_mark z stream mark)
mark_shuts z stream mark o = by_handle (on_stream z stream) refl where
  by_handle : (h : Option Handle) → on_stream z stream ≡ h → Shuts stream z (mark_at z mark h)
  by_handle None e = record {
    others = others_self stream z;
    shut = λ place x at on. absurd (eqb-false x.stream stream (none_is_left z (λ y. y.stream == stream) place x e at) on);
  }
  by_handle (Some h) e =
      let l = is_least z (λ y. y.stream == stream) h e in
      subst (λ k. Shuts k z (mark_at z mark (Some h))) (eqb-true l.state.stream stream l.passes) (mark_here z mark h l.state o l.at)

pub expire_shuts : (z : Sessions) (now stream : ℕ) → AreInOrder z → expire_reply z now ≡ Some stream → Shuts stream z (after_expire z now)
expire_shuts z now stream o e = by_handle (due z now) refl e where
  same : (a b : ℕ) → Some a ≡ Some b → a ≡ b
  same a b f = cc

  by_handle : (h : Option Handle) → due z now ≡ h → stream_of (found z h) ≡ Some stream → Shuts stream z (mark_at z (Expired now) h)
  by_handle None f g = absurd (cc)
  by_handle (Some h) f g =
      let l = is_least z (λ x. is_going x.view && nat_le (deadline_of x.view) now) h f in
      subst (λ k. Shuts k z (mark_at z (Expired now) (Some h))) (same l.state.stream stream (ap stream_of (sym l.at) ∙ g)) (mark_here z (Expired now) h l.state o l.at)

-- ---- how the session on a stream stands

-- a session lies on it
pub record LiesOn (z : Sessions) (stream : ℕ) (ended : Bool) : Type 0 where
  pub place : ℕ
  pub session : SessionState
  pub at : IsAt z place session
  pub on : session.stream ≡ stream
  pub ends : not (is_going session.view) ≡ ended

abbrev ended_in : Option (ℕ × Bool) → Bool
ended_in None = false
ended_in (Some state) = state.1

abbrev state_found : Option SessionState → Option (ℕ × Bool)
state_found None = None
state_found (Some x) = Some (session_of x.view, not (is_going x.view))

pub state_lies : (z : Sessions) (stream : ℕ) (state : ℕ × Bool) → state_reply z stream ≡ Some state → LiesOn z stream state.1
state_lies z stream state e = by_handle (on_stream z stream) refl e where
  by_handle : (h : Option Handle) → on_stream z stream ≡ h → state_found (found z h) ≡ Some state → LiesOn z stream state.1
  by_handle None f g = absurd (cc)
  by_handle (Some h) f g =
      let l = is_least z (λ y. y.stream == stream) h f in record {
        place = h.place;
        session = l.state;
        at = l.place;
        on = eqb-true l.state.stream stream l.passes;
        ends = ap ended_in (ap state_found (sym l.at) ∙ g);
      }

pub none_lies : (z : Sessions) (stream : ℕ) → state_reply z stream ≡ None → (place : ℕ) (x : SessionState) → IsAt z place x → x.stream ≢ stream
none_lies z stream e place x at = eqb-false x.stream stream (free_stream z stream place x e at)

-- ---- sessions that no agent has taken

abbrev pub IsHeard : Registrations → SessionState → Type 0
IsHeard r x = IsSome (listener_of r (request_of x.view).name)

abbrev pub AreHeard : Registrations → Sessions → Type 0
AreHeard r z = (place : ℕ) (x : SessionState) → IsAt z place x → x.owner ≡ 0 → IsHeard r x

-- where only sessions on one stream change, the untaken sessions on other streams are still for objectives that are listened for
pub heard_moved : (r : Registrations) (stream : ℕ) (z w : Sessions) → AreHeard r z → OthersStay stream z w → ((place : ℕ) (x : SessionState) → IsAt w place x → x.stream ≡ stream → x.owner ≡ 0 → IsHeard r x) → AreHeard r w
heard_moved r stream z w heard stay here place x at own = by_case (eqb_tells x.stream stream) where
  by_case : Same x.stream stream → IsHeard r x
  by_case (inl i) = here place x at i.1 own
  by_case (inr i) = heard place x ((stay place x i.1).1 at) own

-- one that has its outcome was taken
pub shut_heard : (r : Registrations) (stream : ℕ) (z w : Sessions) → AreInOrder w → AreHeard r z → Shuts stream z w → AreHeard r w
shut_heard r stream z w o heard s = heard_moved r stream z w heard s.others (λ place x at on own. absurd (true≢false (sym (o.untaken place x at own).1 ∙ s.shut place x at on)))
