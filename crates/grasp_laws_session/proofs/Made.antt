-- Which sessions were made, and what one more call does to them.
use Rattle.std.proofs.Common.{◌≡◌, ◌≢◌, ℕ, zero, suc, ◌<◌, Bool, true, false, cond, List, [], ◌∷◌, ◌++◌, ◌⊎◌, inl, inr, Option, Some, None, option_map, Result, Ok, Err, length, slice_index_or, ◌==◌, refl, sym, ap, ◌∙◌, subst, arith}
use Rattle.std.specs.List.{Contains, find, filter_map}
use Rattle.std.proofs.lemmas.Bool.{true≢false, eq-eqb, eqb-true}
use Rattle.std.proofs.lemmas.List.Elements.{Contains-append_left, Contains-append_right, Contains-append_cases}
use Rattle.grasp_types.specs.declared.message.Message.{Message}
use Rattle.grasp_types.specs.declared.session.Handle.{Handle}
use Rattle.grasp_types.specs.declared.session.Progress.{Progress}
use Rattle.grasp_types.specs.declared.session.Progress.TheVariants.{Ended}
use Rattle.grasp_session.specs.declared.answer.Received.{Received}
use Rattle.grasp_session.specs.declared.answer.Received.TheVariants.{Kept, Ignored, Bad}
use Rattle.grasp_session.specs.declared.answer.SessionRefused.{SessionRefused}
use Rattle.grasp_session.specs.declared.begin.Begin.{Begin}
use Rattle.grasp_session.specs.Transcript.{Mark, Expired, is_going, Saying, act_of, having_said, receive, after_received, with_kept, with_mark, Does, Suffers}
use Rattle.grasp_session.specs.Sessions.{SessionState, Sessions, with_transcript, with_owner, begun_state, session_at, found, with_place, left, is_leaving, changed, on_stream, due, start_reply, after_start, check_reply, after_say, receive_reply, after_receive, after_poll, leave_at, mark_at, after_adopt}
use Rattle.grasp_session.specs.Says.{IsAt}
use Rattle.grasp_session.specs.Runs.{TableCall, Begins, Speaks, Takes, Polls, EndsBy, Expires, Adopts, Removes, MayCall, after_call, WasMade}
use Rattle.grasp_session.specs.Made.{NoneAreReached, sessions_made, session_made, opened, with_deed, touched, with_session, CallsTouchOne, LiveComesFirst, ViewsAreBuilt}
use Rattle.grasp_session.proofs.Facts.{found_is}
use Rattle.grasp_session.proofs.Tables.{state_slot}
use Rattle.grasp_session.proofs.Means.{checked_means, said_means}
use Rattle.grasp_laws_session.proofs.Says.{started}
use Rattle.grasp_laws_session.proofs.Streams.{is_least}
use Rattle.grasp_laws_session.proofs.Runs.{Sound, Distinct, each_at, Touches, touches_set, touches_left, touches_new, made_fits, reached_sound, call_sound, some_state, does_said}

pub none_reached : NoneAreReached
none_reached = record { calls = []; may = tt; after = refl }

pub views_built : ViewsAreBuilt
views_built z x r w = (made_fits z x (reached_sound z r) w).built

-- the sessions that were made, as a list
contains_later : (y : SessionState) (l : List SessionState) (x : SessionState) → Contains l x → Contains (y ∷ l) x
contains_later y l x c = (suc c.0, omega (arith, c.1), c.2)

live_in : (l : List (Option SessionState)) (x : SessionState) → Contains (filter_map (λ o. o) l) x → (p : ℕ) × (slice_index_or l p None ≡ Some x)
live_in [] x c = absurd (omega (arith, c.1))
live_in (None ∷ l) x c = let q = live_in l x c in (suc q.0, q.1)
live_in (Some y ∷ l) x c = by_index c.0 c.1 c.2 (λ d. live_in l x d) where
  by_index : (k : ℕ) → k < length (y ∷ filter_map (λ o. o) l) → slice_index_or (y ∷ filter_map (λ o. o) l) k x ≡ x
      → (Contains (filter_map (λ o. o) l) x → (p : ℕ) × (slice_index_or l p None ≡ Some x))
      → (p : ℕ) × (slice_index_or (Some y ∷ l) p None ≡ Some x)
  by_index zero h e rest = (zero, ap (λ (w : SessionState). Some w) e)
  by_index (suc k) h e rest = let q = rest (k, omega (arith, h), e) in (suc q.0, q.1)

in_live : (l : List (Option SessionState)) (p : ℕ) (x : SessionState) → slice_index_or l p None ≡ Some x → Contains (filter_map (λ o. o) l) x
in_live [] p x e = absurd (cc)
in_live (None ∷ l) zero x e = absurd (cc)
in_live (None ∷ l) (suc p) x e = in_live l p x e
in_live (Some y ∷ l) zero x e = (zero, omega arith, some_state y x e)
in_live (Some y ∷ l) (suc p) x e = contains_later y (filter_map (λ o. o) l) x (in_live l p x e)

made_in : (z : Sessions) (x : SessionState) → WasMade z x → Contains (sessions_made z) x
made_in z x (inl i) = Contains-append_left (filter_map (λ o. o) z.places) z.gone x (in_live z.places i.0 x i.1)
made_in z x (inr c) = Contains-append_right (filter_map (λ o. o) z.places) z.gone x c

in_made : (z : Sessions) (x : SessionState) → Contains (sessions_made z) x → WasMade z x
in_made z x c = by_case (Contains-append_cases (filter_map (λ o. o) z.places) z.gone x c) where
  by_case : Contains (filter_map (λ o. o) z.places) x ⊎ Contains z.gone x → WasMade z x
  by_case (inl i) = inl (live_in z.places x i)
  by_case (inr i) = inr i

none_found : (p : SessionState → Bool) (l : List SessionState) (x : SessionState) → find p l ≡ None → Contains l x → p x ≡ false
none_found p [] x e c = absurd (omega (arith, c.1))
none_found p (y ∷ l) x e c = by_test (p y) refl e (λ g d. none_found p l x g d) where
  by_index : p y ≡ false → (Contains l x → p x ≡ false) → (k : ℕ) → k < length (y ∷ l) → slice_index_or (y ∷ l) k x ≡ x → p x ≡ false
  by_index f rest zero h i = subst (λ w. p w ≡ false) i f
  by_index f rest (suc k) h i = rest (k, omega (arith, h), i)

  by_test : (b : Bool) → p y ≡ b → cond b (Some y) (find p l) ≡ None → (find p l ≡ None → Contains l x → p x ≡ false) → p x ≡ false
  by_test true f g rest = absurd (cc)
  by_test false f g rest = by_index f (rest g) c.0 c.1 c.2

-- one session has each number
distinct_same : (l : List SessionState) (x y : SessionState) → Distinct l → Contains l x → Contains l y → x.number ≡ y.number → x ≡ y
distinct_same [] x y d c e n = absurd (omega (arith, c.1))
distinct_same (w ∷ l) x y d c e n = by_index c.0 e.0 c.1 e.1 c.2 e.2 (λ c e. distinct_same l x y d.1 c e n) where
  other_number : (u : SessionState) (k : ℕ) → k < length l → slice_index_or l k u ≡ u → w.number ≢ u.number
  other_number u k h i = each_at (λ v. w.number ≢ v.number) l k u d.0 h i

  by_index : (i j : ℕ) → i < length (w ∷ l) → j < length (w ∷ l) → slice_index_or (w ∷ l) i x ≡ x → slice_index_or (w ∷ l) j y ≡ y
      → (Contains l x → Contains l y → x ≡ y) → x ≡ y
  by_index zero zero h k f g rest = sym f ∙ g
  by_index zero (suc j) h k f g rest = absurd (other_number y j (omega (arith, k)) g (ap (λ (u : SessionState). u.number) f ∙ n))
  by_index (suc i) zero h k f g rest = absurd (other_number x i (omega (arith, h)) f (ap (λ (u : SessionState). u.number) g ∙ sym n))
  by_index (suc i) (suc j) h k f g rest = rest (i, omega (arith, h), f) (j, omega (arith, k), g)

one_made : (z : Sessions) (x y : SessionState) → Sound z → WasMade z x → WasMade z y → x.number ≡ y.number → x ≡ y
one_made z x y s (inl i) (inl j) n = some_state x y (sym i.1 ∙ (ap (λ (p : ℕ). slice_index_or z.places p None) (s.apart i.0 j.0 x y i.1 j.1 n) ∙ j.1))
one_made z x y s (inl i) (inr c) n = absurd (each_at (λ u. x.number ≢ u.number) z.gone c.0 y (s.unused i.0 x i.1) c.1 c.2 n)
one_made z x y s (inr c) (inl j) n = absurd (each_at (λ u. y.number ≢ u.number) z.gone c.0 x (s.unused j.0 y j.1) c.1 c.2 (sym n))
one_made z x y s (inr c) (inr d) n = distinct_same z.gone x y s.distinct c d n

pub made_is : (z : Sessions) (n : ℕ) (x : SessionState) → session_made z n ≡ Some x → WasMade z x × (x.number ≡ n)
made_is z n x e =
    let f = found_is (λ y. y.number == n) (sessions_made z) x e in
    (in_made z x f.0, eqb-true x.number n f.1)

pub is_made : (z : Sessions) (n : ℕ) (x : SessionState) → Sound z → WasMade z x → x.number ≡ n → session_made z n ≡ Some x
is_made z n x s w e = by_found (session_made z n) refl where
  by_found : (o : Option SessionState) → session_made z n ≡ o → session_made z n ≡ Some x
  by_found None f = absurd (true≢false (sym (eq-eqb x.number n e) ∙ none_found (λ y. y.number == n) (sessions_made z) x f (made_in z x w)))
  by_found (Some y) f = let m = made_is z n y f in f ∙ ap (λ w. Some w) (one_made z y x s m.0 w (m.1 ∙ sym e))

option_same : (o q : Option SessionState) → ((x : SessionState) → o ≡ Some x → q ≡ Some x) → ((x : SessionState) → q ≡ Some x → o ≡ Some x) → o ≡ q
option_same None None f g = refl
option_same None (Some y) f g = g y refl
option_same (Some x) q f g = sym (f x refl)

-- after a change of one session
touches_one : (z t : Sessions) (y : SessionState) (n : ℕ) → Sound z → Sound t → Touches z t y → session_made t n ≡ with_session (Some y) n (session_made z n)
touches_one z t y n s r u = by_test (y.number == n) refl where
  other : y.number == n ≡ false → (w : SessionState) → w.number ≡ n → w.number ≢ y.number
  other f w m e = true≢false (sym (eq-eqb y.number n (sym e ∙ m)) ∙ f)

  ahead : y.number == n ≡ false → (w : SessionState) → session_made t n ≡ Some w → session_made z n ≡ Some w
  ahead f w e = by_case (u.back w (made_is t n w e).0) where
    by_case : (w ≡ y) ⊎ WasMade z w → session_made z n ≡ Some w
    by_case (inl same) = absurd (other f w (made_is t n w e).1 (ap (λ (v : SessionState). v.number) same))
    by_case (inr m) = is_made z n w s m (made_is t n w e).1

  behind : y.number == n ≡ false → (w : SessionState) → session_made z n ≡ Some w → session_made t n ≡ Some w
  behind f w e = by_case (u.there w (made_is z n w e).0) where
    by_case : (w.number ≡ y.number) ⊎ WasMade t w → session_made t n ≡ Some w
    by_case (inl same) = absurd (other f w (made_is z n w e).1 same)
    by_case (inr m) = is_made t n w r m (made_is z n w e).1

  by_test : (b : Bool) → y.number == n ≡ b → session_made t n ≡ cond b (Some y) (session_made z n)
  by_test true f = is_made t n y r u.here (eqb-true y.number n f)
  by_test false f = option_same (session_made t n) (session_made z n) (ahead f) (behind f)

-- where the session stays as it was
same_one : (z : Sessions) (x : SessionState) (n : ℕ) → Sound z → WasMade z x → session_made z n ≡ with_session (Some x) n (session_made z n)
same_one z x n s w = by_test (x.number == n) refl where
  by_test : (b : Bool) → x.number == n ≡ b → session_made z n ≡ cond b (Some x) (session_made z n)
  by_test true f = is_made z n x s w (eqb-true x.number n f)
  by_test false f = refl

changed_touches : (z : Sessions) (h : Handle) (x y : SessionState) → session_at z h ≡ Some x → y.number ≡ x.number → Touches z (changed z h y) y
changed_touches z h x y e same = by_test (is_leaving y) where
  by_test : (b : Bool) → Touches z (cond b (left z h y) (with_place z h.place (Some y))) y
  by_test true = touches_left z h x y (state_slot z h x e) same
  by_test false = touches_set z h.place x y (state_slot z h x e) same

-- the calls
abbrev One : Sessions → TableCall → ℕ → Type 0
One z c n = session_made (after_call z c) n ≡ with_session (touched z c) n (session_made z n)

begins_one : (z : Sessions) (now : ℕ) (b : Begin) (n : ℕ) (r : Result Handle SessionRefused) → start_reply z ≡ r → Sound z → Sound (after_start z now b r)
    → session_made (after_start z now b r) n ≡ with_session (opened now b r) n (session_made z n)
begins_one z now b n (Ok h) e s t =
    let g = started z h e in touches_one z (after_start z now b (Ok h)) (begun_state now h.number b) n s t
    (touches_new z h (begun_state now h.number b) g.place g.empty)
begins_one z now b n (Err refused) e s t = refl

speaks_one : (z : Sessions) (now owner : ℕ) (h : Handle) (sg : Saying) (n : ℕ) → check_reply z owner h (act_of sg) ≡ Ok tt → Sound z
    → Sound (after_say z now h sg) → One z (Speaks now owner h sg) n
speaks_one z now owner h sg n e s t =
    let c = checked_means z owner h (act_of sg) e in
    let said : with_deed (Does now sg) c.state
    ≡ with_transcript c.state (having_said c.state.view now sg) = ap (with_transcript c.state) (does_said c.state.view now sg c.allowed) in
    let after : after_say z now h sg ≡ changed z h (with_transcript c.state (having_said c.state.view now sg)) = (said_means z now h sg c.state c.at).after in
    let one = touches_one z (changed z h (with_transcript c.state (having_said c.state.view now sg)))
    (with_transcript c.state (having_said c.state.view now sg)) n s (subst Sound after t)
    (changed_touches z h c.state (with_transcript c.state (having_said c.state.view now sg)) c.at refl) in
    ap (λ w. session_made w n) after
    ∙ (one ∙ ap (λ o. with_session o n (session_made z n)) (sym (ap (option_map (with_deed (Does now sg))) c.at ∙ ap (λ w. Some w) said)))

abbrev taken : ℕ → Message → SessionState → SessionState
taken now m x = with_transcript x (after_received x.view now m (receive x.view m))

abbrev received : Message → Option SessionState → Received
received m None = Ignored
received m (Some x) = receive x.view m

takes_state : (z : Sessions) (now stream : ℕ) (m : Message) (n : ℕ) (h : Handle) (x : SessionState) (r : Received) → on_stream z stream ≡ Some h
    → session_at z h ≡ Some x → receive x.view m ≡ r → Sound z
    → Sound (after_receive z now stream m r) → session_made (after_receive z now stream m r) n
    ≡ with_session (Some (with_transcript x (after_received x.view now m r))) n (session_made z n)
takes_state z now stream m n h x Kept f g e s t =
    let after : after_receive z now stream m Kept ≡ changed z h (with_transcript x (with_kept x.view now m)) = rw (f, g) refl in
    ap (λ w. session_made w n) after
    ∙ touches_one z (changed z h (with_transcript x (with_kept x.view now m))) (with_transcript x (with_kept x.view now m)) n s (subst Sound after t)
    (changed_touches z h x (with_transcript x (with_kept x.view now m)) g refl)
takes_state z now stream m n h x Ignored f g e s t = same_one z x n s (inl (h.place, state_slot z h x g))
takes_state z now stream m n h x Bad f g e s t = same_one z x n s (inl (h.place, state_slot z h x g))

takes_one : (z : Sessions) (now stream : ℕ) (m : Message) (n : ℕ) → Sound z → Sound (after_receive z now stream m (receive_reply z stream m))
    → One z (Takes now stream m) n
takes_one z now stream m n s t = by_handle (on_stream z stream) refl where
  by_state : (h : Handle) → on_stream z stream ≡ Some h → (o : Option SessionState) → session_at z h ≡ o → One z (Takes now stream m) n
  by_state h f None g =
      let r : receive_reply z stream m ≡ Ignored = rw (f, g) refl in
      ap (λ k. session_made (after_receive z now stream m k) n) r
      ∙ ap (λ o. with_session (option_map (taken now m) o) n (session_made z n)) (sym (ap (found z) f ∙ g))
  by_state h f (Some x) g =
      let r : receive_reply z stream m ≡ receive x.view m = rw (f, g) refl in
      ap (λ k. session_made (after_receive z now stream m k) n) r
      ∙ (takes_state z now stream m n h x (receive x.view m) f g refl s (subst (λ k. Sound (after_receive z now stream m k)) r t)
      ∙ ap (λ o. with_session (option_map (taken now m) o) n (session_made z n)) (sym (ap (found z) f ∙ g)))

  by_handle : (o : Option Handle) → on_stream z stream ≡ o → One z (Takes now stream m) n
  by_handle None f =
      let r : receive_reply z stream m ≡ Ignored = rw f refl in
      ap (λ k. session_made (after_receive z now stream m k) n) r ∙ ap (λ o. with_session (option_map (taken now m) (found z o)) n (session_made z n)) (sym f)
  by_handle (Some h) f = by_state h f (session_at z h) refl

-- poll and remove
goes_one : (z : Sessions) (h : Handle) (n : ℕ) (o : Option SessionState) → session_at z h ≡ o → Sound z → Sound (leave_at z h o)
    → session_made (leave_at z h o) n ≡ session_made z n
goes_one z h n None e s t = refl
goes_one z h n (Some x) e s t =
    touches_one z (left z h x) x n s t (touches_left z h x x (state_slot z h x e) refl) ∙ sym (same_one z x n s (inl (h.place, state_slot z h x e)))

polls_one : (z : Sessions) (h : Handle) (n : ℕ) (r : Result Progress SessionRefused) → Sound z → Sound (after_poll z h r)
    → session_made (after_poll z h r) n ≡ session_made z n
polls_one z h n (Ok (Ended o)) s t = goes_one z h n (session_at z h) refl s t
polls_one z h n _ s t = refl

-- closed, starved, bad and expire_one
abbrev marked_state : Sessions → Mark → Handle → Option SessionState → Sessions
marked_state z mark h None = z
marked_state z mark h (Some x) = cond (is_going x.view) (changed z h (with_transcript x (with_mark x.view mark))) z

marks_state_one : (z : Sessions) (mark : Mark) (h : Handle) (n : ℕ) (x : SessionState) → session_at z h ≡ Some x → Sound z
    → Sound (marked_state z mark h (Some x))
    → session_made (marked_state z mark h (Some x)) n ≡ with_session (Some (with_deed (Suffers mark) x)) n (session_made z n)
marks_state_one z mark h n x e s t = by_test (is_going x.view) t where
  by_test : (b : Bool) → Sound (cond b (changed z h (with_transcript x (with_mark x.view mark))) z)
      → session_made (cond b (changed z h (with_transcript x (with_mark x.view mark))) z) n
      ≡ with_session (Some (with_transcript x (cond b (with_mark x.view mark) x.view))) n (session_made z n)
  by_test true u =
      touches_one z (changed z h (with_transcript x (with_mark x.view mark))) (with_transcript x (with_mark x.view mark)) n s u
      (changed_touches z h x (with_transcript x (with_mark x.view mark)) e refl)
  by_test false u = same_one z x n s (inl (h.place, state_slot z h x e))

marks_one : (z : Sessions) (mark : Mark) (n : ℕ) (o : Option Handle) → Sound z → Sound (mark_at z mark o)
    → session_made (mark_at z mark o) n ≡ with_session (option_map (with_deed (Suffers mark)) (found z o)) n (session_made z n)
marks_one z mark n None s t = refl
marks_one z mark n (Some h) s t = by_state (session_at z h) refl where
  by_state : (o : Option SessionState) → session_at z h ≡ o
      → session_made (mark_at z mark (Some h)) n ≡ with_session (option_map (with_deed (Suffers mark)) (session_at z h)) n (session_made z n)
  by_state None e = rw e refl
  by_state (Some x) e =
      let after : mark_at z mark (Some h) ≡ marked_state z mark h (Some x) = rw e refl in
      ap (λ w. session_made w n) after
      ∙ (marks_state_one z mark h n x e s (subst Sound after t) ∙ ap (λ o. with_session (option_map (with_deed (Suffers mark)) o) n (session_made z n)) (sym e))

-- adopt
adopts_one : (z : Sessions) (owner : ℕ) (h : Handle) (n : ℕ) (o : Option SessionState) → session_at z h ≡ o → Sound z → Sound (after_adopt z owner h)
    → session_made (after_adopt z owner h) n ≡ with_session (option_map (λ x. with_owner x owner) o) n (session_made z n)
adopts_one z owner h n None e s t = rw e refl
adopts_one z owner h n (Some x) e s t =
    let after : after_adopt z owner h ≡ with_place z h.place (Some (with_owner x owner)) = rw e refl in
    ap (λ w. session_made w n) after
    ∙ touches_one z (with_place z h.place (Some (with_owner x owner))) (with_owner x owner) n s (subst Sound after t)
    (touches_set z h.place x (with_owner x owner) (state_slot z h x e) refl)

call_one : (z : Sessions) (c : TableCall) (n : ℕ) → MayCall z c → Sound z → Sound (after_call z c) → One z c n
call_one z (Begins now begin) n m s t = begins_one z now begin n (start_reply z) refl s t
call_one z (Speaks now owner h sg) n m s t = speaks_one z now owner h sg n m s t
call_one z (Takes now stream message) n m s t = takes_one z now stream message n s t
call_one z (Polls owner h result) n m s t = polls_one z h n result s t
call_one z (EndsBy stream mark) n m s t = marks_one z mark n (on_stream z stream) s t
call_one z (Expires now) n m s t = marks_one z (Expired now) n (due z now) s t
call_one z (Adopts owner h) n m s t = adopts_one z owner h n (session_at z h) refl s t
call_one z (Removes h) n m s t = goes_one z h n (session_at z h) refl s t

pub calls_touch_one : CallsTouchOne
calls_touch_one z c r m n = let s = reached_sound z r in call_one z c n m s (call_sound z c s m)

-- the live session on a stream comes first
find_front : (p : SessionState → Bool) (l k : List SessionState) (x : SessionState) → find p l ≡ Some x → find p (l ++ k) ≡ Some x
find_front p [] k x e = absurd (cc)
find_front p (y ∷ l) k x e = by_test (p y) e (λ g. find_front p l k x g) where
  by_test : (b : Bool) → cond b (Some y) (find p l) ≡ Some x → (find p l ≡ Some x → find p (l ++ k) ≡ Some x) → cond b (Some y) (find p (l ++ k)) ≡ Some x
  by_test true f rest = f
  by_test false f rest = rest f

pub live_first : LiveComesFirst
live_first z stream h x r on at =
    find_front (λ y. y.stream == stream) (filter_map (λ o. o) z.places) z.gone x
    (by_found (find (λ y. y.stream == stream) (filter_map (λ o. o) z.places)) refl) where
      place : IsAt z h.place x
      place = state_slot z h x at

      same_stream : x.stream == stream ≡ true
      same_stream =
          let m = is_least z (λ y. y.stream == stream) h on in
          subst (λ (w : SessionState). w.stream == stream ≡ true) (some_state m.state x (sym m.at ∙ at)) m.passes

      one : (y : SessionState) → (p : ℕ) × (slice_index_or z.places p None ≡ Some y) → y.stream == stream ≡ true → y ≡ x
      one y i e =
          let s = reached_sound z r in
          let same : y.stream ≡ x.stream = eqb-true y.stream stream e ∙ sym (eqb-true x.stream stream same_stream) in
          some_state y x (sym i.1 ∙ (ap (λ (p : ℕ). slice_index_or z.places p None) (s.streams i.0 h.place y x i.1 place same) ∙ place))

      by_found : (o : Option SessionState) → find (λ y. y.stream == stream) (filter_map (λ o. o) z.places) ≡ o
          → find (λ y. y.stream == stream) (filter_map (λ o. o) z.places) ≡ Some x
      by_found None e =
          let none = none_found (λ y. y.stream == stream) (filter_map (λ o. o) z.places) x e (in_live z.places h.place x place) in
          absurd (true≢false (sym same_stream ∙ none))
      by_found (Some y) e =
          let f = found_is (λ y. y.stream == stream) (filter_map (λ o. o) z.places) y e in
          e ∙ ap (λ (w : SessionState). Some w) (one y (live_in z.places y f.0) f.1)
