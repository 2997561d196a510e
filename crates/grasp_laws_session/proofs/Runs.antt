-- What is so of the sessions of a table after any calls.
use Rattle.std.proofs.Common.{◌≡◌, ◌≢◌, ℕ, zero, suc, ◌<◌, ◌≤◌, Bool, true, false, cond, not, ◌&&◌, List, [], ◌∷◌, ◌++◌, ◌⊎◌, inl, inr, Option, Some, None, Result, Ok, Err, length, replicate, slice_index_or, slice_set, ◌==◌, refl, sym, ap, ◌∙◌, subst, arith}
use Rattle.std.specs.List.{AllPairs}
use Rattle.std.proofs.lemmas.Bool.{true≢false, and_from, cond-true, eq-eqb}
use Rattle.std.proofs.lemmas.Bool.Decides.{eqb_tells}
use Rattle.std.proofs.lemmas.List.{get_or-set_same, get_or-set_other, length-set}
use Rattle.grasp_types.specs.declared.objective.Objective.{Objective}
use Rattle.grasp_types.specs.declared.session.Kind.{Kind}
use Rattle.grasp_types.specs.declared.session.Kind.TheVariants.{Negotiation, Synchronization}
use Rattle.grasp_types.specs.declared.session.Handle.{Handle}
use Rattle.grasp_types.specs.declared.session.Progress.{Progress}
use Rattle.grasp_types.specs.declared.session.Progress.TheVariants.{Ended}
use Rattle.grasp_types.specs.declared.message.Message.{Message}
use Rattle.grasp_types.specs.declared.message.Message.TheVariants.{ReqNeg, Negotiate, Wait, End, Synch, Invalid}
use Rattle.grasp_session.specs.declared.answer.Received.{Received}
use Rattle.grasp_session.specs.declared.answer.Received.TheVariants.{Kept, Ignored, Bad}
use Rattle.grasp_session.specs.declared.answer.SessionRefused.{SessionRefused}
use Rattle.grasp_session.specs.declared.begin.Begin.{Begin}
use Rattle.grasp_session.specs.Messages.{Near, Far}
use Rattle.grasp_session.specs.Transcript.{Mark, Expired, Transcript, known, request_of, opening, is_going, Saying, SayStep, act_of, refusal, having_said, after_said, receive, receive_going, with_kept, after_heard, with_mark, Deed, Does, Gets, Suffers, after_deed, after_deeds}
use Rattle.grasp_session.specs.Sessions.{SessionState, Sessions, no_sessions, with_transcript, with_owner, role_of, begun_state, session_at, with_place, left, is_leaving, changed, on_stream, due, state_reply, IsProper, start_reply, after_start, check_reply, after_say, receive_reply, after_receive, after_poll, leave_at, mark_at, after_adopt}
use Rattle.grasp_session.specs.Runs.{TableCall, Begins, Speaks, Takes, Polls, EndsBy, Expires, Adopts, Removes, MayCall, after_call, AreCalls, after_calls, WasMade, HasNumber, AreInOrder, Reached, CallsGoOn, CallsAreInOrder, NumbersAreNew}
use Rattle.grasp_session.specs.Made.{IsBuilt}
use Rattle.grasp_session.specs.Says.{IsAt, Starts}
use Rattle.grasp_laws_session.proofs.Says.{started}
use Rattle.grasp_laws_session.proofs.Bounds.{Falls, falls_bounded, falls_said, falls_kept, falls_opening, going_test}
use Rattle.grasp_laws_session.proofs.Streams.{free_stream}
use Rattle.grasp_session.proofs.Tables.{state_slot}
use Rattle.grasp_session.proofs.Means.{checked_means, said_means, kept_means}

-- the steps of a transcript, against its own request
abbrev pub StepsFall : Transcript → Type 0
StepsFall v = Falls (request_of v).loops (known v)

falls_with : (v w : Transcript) → request_of w ≡ request_of v → Falls (request_of v).loops (known w) → StepsFall w
falls_with v w e f = subst (λ (o : Objective). Falls o.loops (known w)) (sym e) f

said_request : (v : Transcript) (now : ℕ) (s : Saying) → request_of (having_said v now s) ≡ request_of v
said_request v now (SayStep value) = refl
said_request v now _ = refl

kept_request : (v : Transcript) (now : ℕ) (m : Message) → receive_going v m ≡ Kept → request_of (with_kept v now m) ≡ request_of v
kept_request v now (ReqNeg n o) e = absurd (cc)
kept_request v now (Negotiate n o) e = refl
kept_request v now (Wait n t) e = refl
kept_request v now (End n d) e = refl
kept_request v now (Synch n o) e = refl
kept_request v now (Invalid n d) e = refl
kept_request v now m e = absurd (cc)

said_falls : (v : Transcript) (now : ℕ) (s : Saying) → refusal v (act_of s) ≡ None → StepsFall v → StepsFall (having_said v now s)
said_falls v now s e f = falls_with v (having_said v now s) (said_request v now s) (falls_said (request_of v).loops v now s e f)

kept_falls : (v : Transcript) (now : ℕ) (m : Message) → receive v m ≡ Kept → StepsFall v → StepsFall (with_kept v now m)
kept_falls v now m e f =
    let g : receive_going v m ≡ Kept = going_test (is_going v) (receive_going v m) e in
    falls_with v (with_kept v now m) (kept_request v now m g) (falls_kept (request_of v).loops v now m g f)

begun_falls : (now number : ℕ) (b : Begin) → StepsFall (begun_state now number b).view
begun_falls now number b = falls_with v v refl (subst (λ (o : Objective). Falls o.loops (known v)) (sym (asked b.kind)) (falls_opening b.kind (role_of b.requester) b.timeout now b.session b.objective)) where
  v : Transcript
  v = (begun_state now number b).view

  asked : (kind : Kind) → request_of (opening kind (role_of b.requester) b.timeout now b.session b.objective) ≡ b.objective
  asked Negotiation = refl
  asked Synchronization = refl

-- what befell an end, and one thing more
deeds_more : (v : Transcript) (ds : List Deed) (d : Deed) → after_deeds v (ds ++ d ∷ []) ≡ after_deed (after_deeds v ds) d
deeds_more v [] d = refl
deeds_more v (e ∷ ds) d = deeds_more (after_deed v e) ds d

pub built_deed : (v : Transcript) (d : Deed) → IsBuilt v → IsBuilt (after_deed v d)
built_deed v d b = record {
  kind = b.kind;
  role = b.role;
  timeout = b.timeout;
  now = b.now;
  session = b.session;
  objective = b.objective;
  deeds = b.deeds ++ d ∷ [];
  built = ap (λ w. after_deed w d) b.built ∙ sym (deeds_more (opening b.kind b.role b.timeout b.now b.session b.objective) b.deeds d);
}

pub does_said : (v : Transcript) (now : ℕ) (s : Saying) → refusal v (act_of s) ≡ None → after_deed v (Does now s) ≡ having_said v now s
does_said v now s e = ap (after_said v now s) e

pub gets_kept : (v : Transcript) (now : ℕ) (m : Message) → receive v m ≡ Kept → after_deed v (Gets now m) ≡ with_kept v now m
gets_kept v now m e = ap (after_heard v now m) e

pub suffers_mark : (v : Transcript) (mark : Mark) → is_going v ≡ true → after_deed v (Suffers mark) ≡ with_mark v mark
suffers_mark v mark e = cond-true (is_going v) (with_mark v mark) v e

-- one session, where so many were made
pub record Fits (made : ℕ) (x : SessionState) : Type 0 where
  pub falls : StepsFall x.view
  pub built : IsBuilt x.view
  pub asked : x.view.kind ≡ Synchronization → x.view.role ≡ Near
  pub first : 1 ≤ x.number
  pub last : x.number ≤ made

-- a session that no agent holds is a listener's without an outcome
abbrev pub IsWaiting : SessionState → Type 0
IsWaiting x = x.owner ≡ 0 → (x.view.role ≡ Far) × (is_going x.view ≡ true)

-- all of these sessions have the property P
abbrev pub Each : (SessionState → Type 0) → List SessionState → Type 0
Each P [] = Unit {0}
Each P (x ∷ xs) = P x × Each P xs

each_map : (P Q : SessionState → Type 0) (xs : List SessionState) → ((x : SessionState) → P x → Q x) → Each P xs → Each Q xs
each_map P Q [] f e = tt
each_map P Q (x ∷ xs) f e = (f x e.0, each_map P Q xs f e.1)

each_in : (P : SessionState → Type 0) (xs : List SessionState) (k : ℕ) (d : SessionState) → Each P xs → k < length xs → P (slice_index_or xs k d)
each_in P [] k d e h = absurd (omega (arith, h))
each_in P (y ∷ xs) zero d e h = e.0
each_in P (y ∷ xs) (suc k) d e h = each_in P xs k d e.1 (omega (arith, h))

pub each_at : (P : SessionState → Type 0) (xs : List SessionState) (k : ℕ) (x : SessionState) → Each P xs → k < length xs → slice_index_or xs k x ≡ x → P x
each_at P [] k x e h i = absurd (omega (arith, h))
each_at P (y ∷ xs) zero x e h i = subst P i e.0
each_at P (y ∷ xs) (suc k) x e h i = each_at P xs k x e.1 (omega (arith, h)) i

-- each differs from those after it
abbrev pub Distinct : List SessionState → Type 0
Distinct [] = Unit {0}
Distinct (x ∷ xs) = Each (λ y. x.number ≢ y.number) xs × Distinct xs

distinct_pairs : (l : List SessionState) → Distinct l → AllPairs (λ x y. x.number ≢ y.number) l
distinct_pairs [] e i j d h k = absurd (omega (arith, k))
distinct_pairs (x ∷ l) e zero zero d h k = absurd (omega (arith, h))
distinct_pairs (x ∷ l) e zero (suc j) d h k = each_in (λ y. x.number ≢ y.number) l j d e.0 (omega (arith, k))
distinct_pairs (x ∷ l) e (suc i) zero d h k = absurd (omega (arith, h))
distinct_pairs (x ∷ l) e (suc i) (suc j) d h k = distinct_pairs l e.1 i j d (omega (arith, h)) (omega (arith, k))

pub record Sound (z : Sessions) : Type 0 where
  pub distinct : Distinct z.gone
  pub given : (n : ℕ) → 1 ≤ n → n ≤ z.made → HasNumber z n
  pub long : length z.places ≡ 64
  pub live : (p : ℕ) (x : SessionState) → IsAt z p x → Fits z.made x
  pub gone : Each (Fits z.made) z.gone
  pub apart : (p q : ℕ) (x y : SessionState) → IsAt z p x → IsAt z q y → x.number ≡ y.number → p ≡ q
  pub unused : (p : ℕ) (x : SessionState) → IsAt z p x → Each (λ y. x.number ≢ y.number) z.gone
  pub streams : (p q : ℕ) (x y : SessionState) → IsAt z p x → IsAt z q y → x.stream ≡ y.stream → p ≡ q
  pub waiting : (p : ℕ) (x : SessionState) → IsAt z p x → IsWaiting x

-- a place that is set
pub set_some : (l : List (Option SessionState)) (p : ℕ) (v : Option SessionState) (q : ℕ) (x : SessionState) → slice_index_or (slice_set l p v) q None ≡ Some x
    → ((q ≡ p) × (v ≡ Some x)) ⊎ ((q ≢ p) × (slice_index_or l q None ≡ Some x))
set_some [] p v q x e = absurd (cc)
set_some (a ∷ l) zero v zero x e = inl (refl, e)
set_some (a ∷ l) zero v (suc q) x e = inr (λ f. cc, e)
set_some (a ∷ l) (suc p) v zero x e = inr (λ f. cc, e)
set_some (a ∷ l) (suc p) v (suc q) x e = next (set_some l p v q x e) where
  next : ((q ≡ p) × (v ≡ Some x)) ⊎ ((q ≢ p) × (slice_index_or l q None ≡ Some x)) → ((suc q ≡ suc p) × (v ≡ Some x)) ⊎ ((suc q ≢ suc p) × (slice_index_or l q None ≡ Some x))
  next (inl i) = inl (ap suc i.0, i.1)
  next (inr i) = inr (λ f. i.0 (cc), i.1)

abbrev SetCase : Sessions → ℕ → Option SessionState → ℕ → SessionState → Type 0
SetCase z p v q x = ((q ≡ p) × (v ≡ Some x)) ⊎ ((q ≢ p) × IsAt z q x)

pub some_state : (x y : SessionState) → Some x ≡ Some y → x ≡ y
some_state x y e = cc

pub at_below : (l : List (Option SessionState)) (p : ℕ) (x : SessionState) → slice_index_or l p None ≡ Some x → p < length l
at_below [] p x e = absurd (cc)
at_below (a ∷ l) zero x e = omega arith
at_below (a ∷ l) (suc p) x e = let h = at_below l p x e in omega (arith, h)

-- two tables have the same sessions, but for this one
pub record Touches (z t : Sessions) (y : SessionState) : Type 0 where
  pub here : WasMade t y
  pub there : (w : SessionState) → WasMade z w → (w.number ≡ y.number) ⊎ WasMade t w
  pub back : (w : SessionState) → WasMade t w → (w ≡ y) ⊎ WasMade z w

-- a place that is set leaves the others
still_at : (z : Sessions) (p : ℕ) (v : Option SessionState) (q : ℕ) (w : SessionState) → IsAt z q w → (IsAt z p w) ⊎ (slice_index_or (slice_set z.places p v) q None ≡ Some w)
still_at z p v q w e = by_place (eqb_tells q p) where
  by_place : (((q == p) ≡ true) × (q ≡ p)) ⊎ (((q == p) ≡ false) × (q ≢ p)) → (IsAt z p w) ⊎ (slice_index_or (slice_set z.places p v) q None ≡ Some w)
  by_place (inl i) = inl (subst (λ k. IsAt z k w) i.1 e)
  by_place (inr i) = inr (get_or-set_other z.places p q v None i.1 ∙ e)

-- a session changes at its place, leaves it, or comes to an empty one
pub touches_set : (z : Sessions) (p : ℕ) (x y : SessionState) → IsAt z p x → y.number ≡ x.number → Touches z (with_place z p (Some y)) y
touches_set z p x y at same = record {
  here = inl (p, get_or-set_same z.places p (Some y) None (at_below z.places p x at));
  there = λ w m. there w m;
  back = λ w m. back w m;
} where
  by_still : (q : ℕ) (w : SessionState) → (IsAt z p w) ⊎ (slice_index_or (slice_set z.places p (Some y)) q None ≡ Some w) → (w.number ≡ y.number) ⊎ WasMade (with_place z p (Some y)) w
  by_still q w (inl e) = inl (ap (λ (u : SessionState). u.number) (some_state w x (sym e ∙ at)) ∙ sym same)
  by_still q w (inr e) = inr (inl (q, e))

  there : (w : SessionState) → WasMade z w → (w.number ≡ y.number) ⊎ WasMade (with_place z p (Some y)) w
  there w (inl i) = by_still i.0 w (still_at z p (Some y) i.0 w i.1)
  there w (inr i) = inr (inr i)

  by_set : (q : ℕ) (w : SessionState) → SetCase z p (Some y) q w → (w ≡ y) ⊎ WasMade z w
  by_set q w (inl i) = inl (sym (some_state y w i.1))
  by_set q w (inr i) = inr (inl (q, i.1))

  back : (w : SessionState) → WasMade (with_place z p (Some y)) w → (w ≡ y) ⊎ WasMade z w
  back w (inl i) = by_set i.0 w (set_some z.places p (Some y) i.0 w i.1)
  back w (inr i) = inr (inr i)

pub touches_left : (z : Sessions) (h : Handle) (x y : SessionState) → IsAt z h.place x → y.number ≡ x.number → Touches z (left z h y) y
touches_left z h x y at same = record {
  here = inr (zero, omega arith, refl);
  there = λ w m. there w m;
  back = λ w m. back w m;
} where
  by_still : (q : ℕ) (w : SessionState) → (IsAt z h.place w) ⊎ (slice_index_or (slice_set z.places h.place None) q None ≡ Some w) → (w.number ≡ y.number) ⊎ WasMade (left z h y) w
  by_still q w (inl e) = inl (ap (λ (u : SessionState). u.number) (some_state w x (sym e ∙ at)) ∙ sym same)
  by_still q w (inr e) = inr (inl (q, e))

  there : (w : SessionState) → WasMade z w → (w.number ≡ y.number) ⊎ WasMade (left z h y) w
  there w (inl i) = by_still i.0 w (still_at z h.place None i.0 w i.1)
  there w (inr i) = inr (inr (suc i.0, omega (arith, i.1), i.2))

  by_set : (q : ℕ) (w : SessionState) → SetCase z h.place None q w → (w ≡ y) ⊎ WasMade z w
  by_set q w (inl i) = absurd (cc)
  by_set q w (inr i) = inr (inl (q, i.1))

  by_gone : (w : SessionState) (k : ℕ) → k < length (y ∷ z.gone) → slice_index_or (y ∷ z.gone) k w ≡ w → (w ≡ y) ⊎ WasMade z w
  by_gone w zero h e = inl (sym e)
  by_gone w (suc k) h e = inr (inr (k, omega (arith, h), e))

  back : (w : SessionState) → WasMade (left z h y) w → (w ≡ y) ⊎ WasMade z w
  back w (inl i) = by_set i.0 w (set_some z.places h.place None i.0 w i.1)
  back w (inr i) = by_gone w i.0 i.1 i.2

pub touches_new : (z : Sessions) (h : Handle) (y : SessionState) → h.place < length z.places → slice_index_or z.places h.place None ≡ None → Touches z (record { made = h.number; places = slice_set z.places h.place (Some y); gone = z.gone }) y
touches_new z h y below empty = record {
  here = inl (h.place, get_or-set_same z.places h.place (Some y) None below);
  there = λ w m. there w m;
  back = λ w m. back w m;
} where
  by_still : (q : ℕ) (w : SessionState) → (IsAt z h.place w) ⊎ (slice_index_or (slice_set z.places h.place (Some y)) q None ≡ Some w)
      → (w.number ≡ y.number) ⊎ WasMade (record { made = h.number; places = slice_set z.places h.place (Some y); gone = z.gone }) w
  by_still q w (inl e) = let clash : None ≡ Some w = sym empty ∙ e in absurd (cc)
  by_still q w (inr e) = inr (inl (q, e))

  there : (w : SessionState) → WasMade z w → (w.number ≡ y.number) ⊎ WasMade (record { made = h.number; places = slice_set z.places h.place (Some y); gone = z.gone }) w
  there w (inl i) = by_still i.0 w (still_at z h.place (Some y) i.0 w i.1)
  there w (inr i) = inr (inr i)

  by_set : (q : ℕ) (w : SessionState) → SetCase z h.place (Some y) q w → (w ≡ y) ⊎ WasMade z w
  by_set q w (inl i) = inl (sym (some_state y w i.1))
  by_set q w (inr i) = inr (inl (q, i.1))

  back : (w : SessionState) → WasMade (record { made = h.number; places = slice_set z.places h.place (Some y); gone = z.gone }) w → (w ≡ y) ⊎ WasMade z w
  back w (inl i) = by_set i.0 w (set_some z.places h.place (Some y) i.0 w i.1)
  back w (inr i) = inr (inr i)

-- the numbers stay given
given_still : (z t : Sessions) (y : SessionState) (n : ℕ) → Touches z t y → HasNumber z n → HasNumber t n
given_still z t y n u g = by_case (u.there g.state g.was_made) where
  by_case : (g.state.number ≡ y.number) ⊎ WasMade t g.state → HasNumber t n
  by_case (inl e) = record { state = y; was_made = u.here; named = sym e ∙ g.named }
  by_case (inr m) = record { state = g.state; was_made = m; named = g.named }

-- a session changes at its place
replaced : (z : Sessions) (p : ℕ) (x y : SessionState) → Sound z → IsAt z p x → y.number ≡ x.number → y.stream ≡ x.stream → Fits z.made y → IsWaiting y → Sound (with_place z p (Some y))
replaced z p x y s at same on fits still = record {
  distinct = s.distinct;
  given = λ n a b. given_still z (with_place z p (Some y)) y n (touches_set z p x y at same) (s.given n a b);
  long = length-set z.places p (Some y) ∙ s.long;
  live = λ q w e. live q w (set_some z.places p (Some y) q w e);
  gone = s.gone;
  apart = λ q r v w e f n. apart q r v w n (set_some z.places p (Some y) q v e) (set_some z.places p (Some y) r w f);
  unused = λ q w e. unused q w (set_some z.places p (Some y) q w e);
  streams = λ q r v w e f n. streams q r v w n (set_some z.places p (Some y) q v e) (set_some z.places p (Some y) r w f);
  waiting = λ q w e. waiting q w (set_some z.places p (Some y) q w e);
} where
  stream_of : (w : SessionState) → Some y ≡ Some w → x.stream ≡ w.stream
  stream_of w e = sym on ∙ ap (λ (u : SessionState). u.stream) (some_state y w e)

  streams : (q r : ℕ) (v w : SessionState) → v.stream ≡ w.stream → SetCase z p (Some y) q v → SetCase z p (Some y) r w → q ≡ r
  streams q r v w n (inl i) (inl j) = i.0 ∙ sym j.0
  streams q r v w n (inl i) (inr j) = i.0 ∙ s.streams p r x w at j.1 (stream_of v i.1 ∙ n)
  streams q r v w n (inr i) (inl j) = s.streams q p v x i.1 at (n ∙ sym (stream_of w j.1)) ∙ sym j.0
  streams q r v w n (inr i) (inr j) = s.streams q r v w i.1 j.1 n

  waiting : (q : ℕ) (w : SessionState) → SetCase z p (Some y) q w → IsWaiting w
  waiting q w (inl i) = subst IsWaiting (some_state y w i.1) still
  waiting q w (inr i) = s.waiting q w i.1

  number_of : (w : SessionState) → Some y ≡ Some w → x.number ≡ w.number
  number_of w e = sym same ∙ ap (λ (u : SessionState). u.number) (some_state y w e)

  live : (q : ℕ) (w : SessionState) → SetCase z p (Some y) q w → Fits z.made w
  live q w (inl i) = subst (Fits z.made) (some_state y w i.1) fits
  live q w (inr i) = s.live q w i.1

  apart : (q r : ℕ) (v w : SessionState) → v.number ≡ w.number → SetCase z p (Some y) q v → SetCase z p (Some y) r w → q ≡ r
  apart q r v w n (inl i) (inl j) = i.0 ∙ sym j.0
  apart q r v w n (inl i) (inr j) = i.0 ∙ s.apart p r x w at j.1 (number_of v i.1 ∙ n)
  apart q r v w n (inr i) (inl j) = s.apart q p v x i.1 at (n ∙ sym (number_of w j.1)) ∙ sym j.0
  apart q r v w n (inr i) (inr j) = s.apart q r v w i.1 j.1 n

  unused : (q : ℕ) (w : SessionState) → SetCase z p (Some y) q w → Each (λ u. w.number ≢ u.number) z.gone
  unused q w (inl i) = subst (λ (n : ℕ). Each (λ u. n ≢ u.number) z.gone) (number_of w i.1) (s.unused p x at)
  unused q w (inr i) = s.unused q w i.1

-- a session leaves its place
leaves : (z : Sessions) (h : Handle) (x y : SessionState) → Sound z → IsAt z h.place x → y.number ≡ x.number → Fits z.made y → Sound (left z h y)
leaves z h x y s at same fits = record {
  distinct = (subst (λ (n : ℕ). Each (λ u. n ≢ u.number) z.gone) (sym same) (s.unused h.place x at), s.distinct);
  given = λ n a b. given_still z (left z h y) y n (touches_left z h x y at same) (s.given n a b);
  long = length-set z.places h.place None ∙ s.long;
  live = λ q w e. live q w (set_some z.places h.place None q w e);
  gone = (fits, s.gone);
  apart = λ q r v w e f n. apart q r v w n (set_some z.places h.place None q v e) (set_some z.places h.place None r w f);
  unused = λ q w e. unused q w (set_some z.places h.place None q w e);
  streams = λ q r v w e f n. streams q r v w n (set_some z.places h.place None q v e) (set_some z.places h.place None r w f);
  waiting = λ q w e. waiting q w (set_some z.places h.place None q w e);
} where
  streams : (q r : ℕ) (v w : SessionState) → v.stream ≡ w.stream → SetCase z h.place None q v → SetCase z h.place None r w → q ≡ r
  streams q r v w n (inl i) j = absurd (cc)
  streams q r v w n (inr i) (inl j) = absurd (cc)
  streams q r v w n (inr i) (inr j) = s.streams q r v w i.1 j.1 n

  waiting : (q : ℕ) (w : SessionState) → SetCase z h.place None q w → IsWaiting w
  waiting q w (inl i) = absurd (cc)
  waiting q w (inr i) = s.waiting q w i.1

  live : (q : ℕ) (w : SessionState) → SetCase z h.place None q w → Fits z.made w
  live q w (inl i) = absurd (cc)
  live q w (inr i) = s.live q w i.1

  apart : (q r : ℕ) (v w : SessionState) → v.number ≡ w.number → SetCase z h.place None q v → SetCase z h.place None r w → q ≡ r
  apart q r v w n (inl i) j = absurd (cc)
  apart q r v w n (inr i) (inl j) = absurd (cc)
  apart q r v w n (inr i) (inr j) = s.apart q r v w i.1 j.1 n

  unused : (q : ℕ) (w : SessionState) → SetCase z h.place None q w → (w.number ≢ y.number) × Each (λ u. w.number ≢ u.number) z.gone
  unused q w (inl i) = absurd (cc)
  unused q w (inr i) = (λ n. i.0 (s.apart q h.place w x i.1 at (n ∙ same)), s.unused q w i.1)

-- one that is still there with owner 0 has no outcome
still_going : (owner : ℕ) (going : Bool) → (owner == 0) && not going ≡ false → owner ≡ 0 → going ≡ true
still_going owner true e f = refl
still_going owner false e f = absurd (true≢false (sym (and_from (owner == 0) true (eq-eqb owner 0 f) refl) ∙ e))

changes : (z : Sessions) (h : Handle) (x : SessionState) (w : Transcript) → Sound z → session_at z h ≡ Some x → w.role ≡ x.view.role → w.kind ≡ x.view.kind → StepsFall w → IsBuilt w → Sound (changed z h (with_transcript x w))
changes z h x w s at role kind falls built = by_test (is_leaving (with_transcript x w)) refl where
  y : SessionState
  y = with_transcript x w

  place : IsAt z h.place x
  place = state_slot z h x at

  fits : Fits z.made y
  fits = let f = s.live h.place x place in record { falls = falls; built = built; asked = λ e. role ∙ f.asked (sym kind ∙ e); first = f.first; last = f.last }

  by_test : (b : Bool) → is_leaving (with_transcript x w) ≡ b → Sound (cond b (left z h (with_transcript x w)) (with_place z h.place (Some (with_transcript x w))))
  by_test true e = leaves z h x y s place refl fits
  by_test false e = replaced z h.place x y s place refl refl fits (λ o. (role ∙ (s.waiting h.place x place o).0, still_going x.owner (is_going w) e o))

-- start
more_fit : (n k : ℕ) (x : SessionState) → n ≤ k → Fits n x → Fits k x
more_fit n k x h f = record { falls = f.falls; built = f.built; asked = f.asked; first = f.first; last = omega (arith, h, f.last) }

starts : (z : Sessions) (now : ℕ) (b : Begin) (h : Handle) → Sound z → state_reply z b.stream ≡ None → IsProper b → Starts z h → Sound (after_start z now b (Ok h))
starts z now b h s free proper t = record {
  distinct = s.distinct;
  given = λ n a b. given n a b;
  long = length-set z.places h.place (Some y) ∙ s.long;
  live = λ q w e. live q w (set_some z.places h.place (Some y) q w e);
  gone = each_map (Fits z.made) (Fits h.number) z.gone (λ x. more_fit z.made h.number x below) s.gone;
  apart = λ q r v w e f n. apart q r v w n (set_some z.places h.place (Some y) q v e) (set_some z.places h.place (Some y) r w f);
  unused = λ q w e. unused q w (set_some z.places h.place (Some y) q w e);
  streams = λ q r v w e f n. streams q r v w n (set_some z.places h.place (Some y) q v e) (set_some z.places h.place (Some y) r w f);
  waiting = λ q w e. waiting q w (set_some z.places h.place (Some y) q w e);
} where
  y : SessionState
  y = begun_state now h.number b

  new_touches : Touches z (after_start z now b (Ok h)) y
  new_touches = touches_new z h y t.place t.empty

  given : (n : ℕ) → 1 ≤ n → n ≤ h.number → HasNumber (after_start z now b (Ok h)) n
  given n a k = by_last (eqb_tells n h.number) where
    by_last : (((n == h.number) ≡ true) × (n ≡ h.number)) ⊎ (((n == h.number) ≡ false) × (n ≢ h.number)) → HasNumber (after_start z now b (Ok h)) n
    by_last (inl e) = record { state = y; was_made = new_touches.here; named = sym e.1 }
    by_last (inr e) = given_still z (after_start z now b (Ok h)) y n new_touches (s.given n a (omega (arith, k, e.1, t.number)))

  other_stream : (v w : SessionState) (r : ℕ) → Some y ≡ Some v → IsAt z r w → v.stream ≡ w.stream → ⊥
  other_stream v w r e at n =
      let m : b.stream ≡ v.stream = ap (λ (u : SessionState). u.stream) (some_state y v e) in
      true≢false (sym (eq-eqb w.stream b.stream (sym (m ∙ n))) ∙ free_stream z b.stream r w free at)

  streams : (q r : ℕ) (v w : SessionState) → v.stream ≡ w.stream → SetCase z h.place (Some y) q v → SetCase z h.place (Some y) r w → q ≡ r
  streams q r v w n (inl i) (inl j) = i.0 ∙ sym j.0
  streams q r v w n (inl i) (inr j) = absurd (other_stream v w r i.1 j.1 n)
  streams q r v w n (inr i) (inl j) = absurd (other_stream w v q j.1 i.1 (sym n))
  streams q r v w n (inr i) (inr j) = s.streams q r v w i.1 j.1 n

  opens : (kind : Kind) → is_going (opening kind (role_of b.requester) b.timeout now b.session b.objective) ≡ true
  opens Negotiation = refl
  opens Synchronization = refl

  waiting : (q : ℕ) (w : SessionState) → SetCase z h.place (Some y) q w → IsWaiting w
  waiting q w (inl i) = subst IsWaiting (some_state y w i.1) (λ o. (ap role_of (proper.untaken o), opens b.kind))
  waiting q w (inr i) = s.waiting q w i.1

  opened : IsBuilt y.view
  opened = record { kind = b.kind; role = role_of b.requester; timeout = b.timeout; now = now; session = b.session; objective = b.objective; deeds = []; built = refl }

  below : z.made ≤ h.number
  below = omega (arith, t.number)

  live : (q : ℕ) (w : SessionState) → SetCase z h.place (Some y) q w → Fits h.number w
  live q w (inl i) = subst (Fits h.number) (some_state y w i.1) (record { falls = begun_falls now h.number b; built = opened; asked = λ e. ap role_of (proper.synchronization e); first = omega (arith, t.number); last = omega arith })
  live q w (inr i) = more_fit z.made h.number w below (s.live q w i.1)

  new : (w u : SessionState) → Some y ≡ Some w → Fits z.made u → w.number ≢ u.number
  new w u e f n =
      let m : h.number ≡ w.number = ap (λ (v : SessionState). v.number) (some_state y w e) in
      omega (arith, t.number, f.last, m, n)

  apart : (q r : ℕ) (v w : SessionState) → v.number ≡ w.number → SetCase z h.place (Some y) q v → SetCase z h.place (Some y) r w → q ≡ r
  apart q r v w n (inl i) (inl j) = i.0 ∙ sym j.0
  apart q r v w n (inl i) (inr j) = absurd (new v w i.1 (s.live r w j.1) n)
  apart q r v w n (inr i) (inl j) = absurd (new w v j.1 (s.live q v i.1) (sym n))
  apart q r v w n (inr i) (inr j) = s.apart q r v w i.1 j.1 n

  unused : (q : ℕ) (w : SessionState) → SetCase z h.place (Some y) q w → Each (λ u. w.number ≢ u.number) z.gone
  unused q w (inl i) = each_map (Fits z.made) (λ u. w.number ≢ u.number) z.gone (λ u. new w u i.1) s.gone
  unused q w (inr i) = s.unused q w i.1

begins : (z : Sessions) (now : ℕ) (b : Begin) (r : Result Handle SessionRefused) → Sound z → state_reply z b.stream ≡ None → IsProper b → start_reply z ≡ r → Sound (after_start z now b r)
begins z now b (Ok h) s free proper t = starts z now b h s free proper (started z h t)
begins z now b (Err refused) s free proper t = s

-- step, wait, end and invalid
speaks : (z : Sessions) (now owner : ℕ) (h : Handle) (sg : Saying) → Sound z → check_reply z owner h (act_of sg) ≡ Ok tt → Sound (after_say z now h sg)
speaks z now owner h sg s e =
    let c = checked_means z owner h (act_of sg) e in
    let f = s.live h.place c.state (state_slot z h c.state c.at) in
    subst Sound (sym (said_means z now h sg c.state c.at).after)
    (changes z h c.state (having_said c.state.view now sg) s c.at refl refl (said_falls c.state.view now sg c.allowed f.falls)
    (subst IsBuilt (does_said c.state.view now sg c.allowed) (built_deed c.state.view (Does now sg) f.built)))

-- receive
takes : (z : Sessions) (now stream : ℕ) (m : Message) (r : Received) → receive_reply z stream m ≡ r → Sound z → Sound (after_receive z now stream m r)
takes z now stream m Kept e s =
    let k = kept_means z now stream m e in
    let f = s.live k.handle.place k.state (state_slot z k.handle k.state k.at) in
    subst Sound (sym k.after)
    (changes z k.handle k.state (with_kept k.state.view now m) s k.at refl refl (kept_falls k.state.view now m k.keeps f.falls)
    (subst IsBuilt (gets_kept k.state.view now m k.keeps) (built_deed k.state.view (Gets now m) f.built)))
takes z now stream m Ignored e s = s
takes z now stream m Bad e s = s

-- poll and remove
goes : (z : Sessions) (h : Handle) (o : Option SessionState) → session_at z h ≡ o → Sound z → Sound (leave_at z h o)
goes z h None e s = s
goes z h (Some x) e s = let p = state_slot z h x e in leaves z h x x s p refl (s.live h.place x p)

polls : (z : Sessions) (h : Handle) (r : Result Progress SessionRefused) → Sound z → Sound (after_poll z h r)
polls z h (Ok (Ended o)) s = goes z h (session_at z h) refl s
polls z h _ s = s

-- closed, starved, bad and expire_one
marks_state : (z : Sessions) (mark : Mark) (h : Handle) (o : Option SessionState) → session_at z h ≡ o → Sound z → Sound (mark_at z mark (Some h))
marks_state z mark h None e s = rw e s
marks_state z mark h (Some x) e s = rw e (by_test (is_going x.view) refl) where
  by_test : (b : Bool) → is_going x.view ≡ b → Sound (cond b (changed z h (with_transcript x (with_mark x.view mark))) z)
  by_test true g =
      let f = s.live h.place x (state_slot z h x e) in
      changes z h x (with_mark x.view mark) s e refl refl f.falls (subst IsBuilt (suffers_mark x.view mark g) (built_deed x.view (Suffers mark) f.built))
  by_test false g = s

marks : (z : Sessions) (mark : Mark) (o : Option Handle) → Sound z → Sound (mark_at z mark o)
marks z mark None s = s
marks z mark (Some h) s = marks_state z mark h (session_at z h) refl s

-- adopt
adopts : (z : Sessions) (owner : ℕ) (h : Handle) (o : Option SessionState) → session_at z h ≡ o → 0 < owner → Sound z → Sound (after_adopt z owner h)
adopts z owner h None e n s = rw e s
adopts z owner h (Some x) e n s =
    let p = state_slot z h x e in
    let f = s.live h.place x p in
    rw e (replaced z h.place x (with_owner x owner) s p refl refl (record { falls = f.falls; built = f.built; asked = f.asked; first = f.first; last = f.last }) (λ o. absurd (omega (arith, n, o))))

pub call_sound : (z : Sessions) (c : TableCall) → Sound z → MayCall z c → Sound (after_call z c)
call_sound z (Begins now begin) s m = begins z now begin (start_reply z) s m.0 m.1 refl
call_sound z (Speaks now owner h sg) s m = speaks z now owner h sg s m
call_sound z (Takes now stream message) s m = takes z now stream message (receive_reply z stream message) refl s
call_sound z (Polls owner h result) s m = polls z h result s
call_sound z (EndsBy stream mark) s m = marks z mark (on_stream z stream) s
call_sound z (Expires now) s m = marks z (Expired now) (due z now) s
call_sound z (Adopts owner h) s m = adopts z owner h (session_at z h) refl m.1 s
call_sound z (Removes h) s m = goes z h (session_at z h) refl s

calls_sound : (z : Sessions) (cs : List TableCall) → Sound z → AreCalls z cs → Sound (after_calls z cs)
calls_sound z [] s m = s
calls_sound z (c ∷ cs) s m = calls_sound (after_call z c) cs (call_sound z c s m.0) m.1

pub none_live : (n p : ℕ) (x : SessionState) → slice_index_or (replicate n None) p None ≡ Some x → ⊥
none_live zero p x e = cc
none_live (suc n) zero x e = cc
none_live (suc n) (suc p) x e = none_live n p x e

none_sound : Sound no_sessions
none_sound = record {
  distinct = tt;
  given = λ n a b. absurd (omega (arith, a, b));
  long = refl;
  live = λ p x e. absurd (none_live 64 p x e);
  gone = tt;
  apart = λ p q x y e f n. absurd (none_live 64 p x e);
  unused = λ p x e. absurd (none_live 64 p x e);
  streams = λ p q x y e f n. absurd (none_live 64 p x e);
  waiting = λ p x e. absurd (none_live 64 p x e);
}

pub made_fits : (z : Sessions) (x : SessionState) → Sound z → WasMade z x → Fits z.made x
made_fits z x s (inl i) = s.live i.0 x i.1
made_fits z x s (inr i) = each_at (Fits z.made) z.gone i.0 x s.gone i.1 i.2

in_order : (z : Sessions) → Sound z → AreInOrder z
in_order z s = record {
  bounded = λ x w. falls_bounded (request_of x.view).loops (known x.view) (made_fits z x s w).falls;
  numbered = λ x w. let f = made_fits z x s w in (f.first, f.last);
  apart = s.apart;
  unused = λ p x y e c. each_at (λ u. x.number ≢ u.number) z.gone c.0 y (s.unused p x e) c.1 c.2;
  retired = distinct_pairs z.gone s.distinct;
  given = s.given;
  long = s.long;
  streams = s.streams;
  untaken = s.waiting;
  asked = λ x w. (made_fits z x s w).asked;
}

pub reached_sound : (z : Sessions) → Reached z → Sound z
reached_sound z r = subst Sound (sym r.after) (calls_sound no_sessions r.calls none_sound r.may)

pub calls_in_order : CallsAreInOrder
calls_in_order z r = in_order z (reached_sound z r)

pub numbers_new : NumbersAreNew
numbers_new z h x r t w =
    let f = made_fits z x (reached_sound z r) w in
    omega (arith, f.last, (started z h t).number)

-- one more call
calls_more : (z : Sessions) (cs : List TableCall) (c : TableCall) → AreCalls z cs → MayCall (after_calls z cs) c → AreCalls z (cs ++ c ∷ [])
calls_more z [] c m n = (n, tt)
calls_more z (d ∷ cs) c m n = (m.0, calls_more (after_call z d) cs c m.1 n)

after_more : (z : Sessions) (cs : List TableCall) (c : TableCall) → after_calls z (cs ++ c ∷ []) ≡ after_call (after_calls z cs) c
after_more z [] c = refl
after_more z (d ∷ cs) c = after_more (after_call z d) cs c

pub calls_go_on : CallsGoOn
calls_go_on z c r m = record {
  calls = r.calls ++ c ∷ [];
  may = calls_more no_sessions r.calls c r.may (subst (λ y. MayCall y c) r.after m);
  after = ap (λ y. after_call y c) r.after ∙ sym (after_more no_sessions r.calls c);
}
