-- What changes of the sessions of a node makes none, and leaves each its number and its stream.
use Rattle.std.proofs.Common.{◌≡◌, ◌≢◌, refl, sym, ap, ◌∙◌, ℕ, ◌==◌, ◌++◌, ◌∷◌, [], List, ◌⊎◌, inl, inr, Bool, true, false, cond, zero, suc, Option, None, Some, Result, Ok, slice_index_or, length, ◌<◌, arith}
use Rattle.std.proofs.lemmas.Bool.{eq-eqb, true≢false}
use Rattle.std.specs.Prelude.{find, filter_map, option_map}
use Rattle.grasp_laws_session.proofs.Runs.{Touches, touches_set, touches_left, touches_new}
use Rattle.grasp_laws_session.proofs.Says.{started}
use Rattle.grasp_session.proofs.Tables.{state_slot}
use Rattle.grasp_session.specs.Made.{on_stream_made}
use Rattle.grasp_session.specs.Runs.{WasMade}
use Rattle.grasp_session.specs.Says.{IsAt}
use Rattle.grasp_session.specs.Sessions.{SessionState, Sessions, with_transcript, with_owner, session_at, is_leaving, left, with_place, changed, begun_state, start_reply, after_start, after_say, keep_at, on_stream, after_receive, mark_at, after_mark, due, after_expire, leave_at, after_poll, after_adopt, after_remove}
use Rattle.grasp_session.specs.Transcript.{Mark, Expired, Transcript, Saying, is_going, having_said, after_received, with_mark}
use Rattle.grasp_session.specs.declared.answer.Received.{Received}
use Rattle.grasp_session.specs.declared.answer.Received.TheVariants.{Kept, Ignored, Bad}
use Rattle.grasp_session.specs.declared.begin.Begin.{Begin}
use Rattle.grasp_session.specs.declared.answer.SessionRefused.{SessionRefused}
use Rattle.grasp_types.specs.declared.message.Message.{Message}
use Rattle.grasp_types.specs.declared.session.Handle.{Handle}
use Rattle.grasp_types.specs.declared.session.Progress.{Progress}
use Rattle.grasp_types.specs.declared.session.Progress.TheVariants.{Ended}
use Rattle.grasp_laws_node_stories.specs.StreamMoves.{view_in}
use Rattle.grasp_laws_negotiation.specs.Streams.{StreamsDiffer}

-- a session of this number and stream was made
pub record From (z : Sessions) (x : SessionState) : Type 0 where
  pub state : SessionState
  pub was_made : WasMade z state
  pub number : state.number ≡ x.number
  pub stream : state.stream ≡ x.stream

-- each session was made before
pub record Lasts (z w : Sessions) : Type 0 where
  pub from : (x : SessionState) → WasMade w x → From z x

itself : (z : Sessions) (x : SessionState) → WasMade z x → From z x
itself z x m = record { state = x; was_made = m; number = refl; stream = refl }

pub self : (z : Sessions) → Lasts z z
self z = record { from = itself z }

pub and_then : (x y z : Sessions) → Lasts x y → Lasts y z → Lasts x z
and_then x y z a b = record { from = λ s m. let f : From y s = b.from s m in further s f (a.from f.state f.was_made) } where
  further : (s : SessionState) → (f : From y s) → From x f.state → From x s
  further s f g = record { state = g.state; was_made = g.was_made; number = g.number ∙ f.number; stream = g.stream ∙ f.stream }

pub differ_still : (z w : Sessions) → Lasts z w → StreamsDiffer z → StreamsDiffer w
differ_still z w l d x y a b e =
    let f : From z x = l.from x a in
    let g : From z y = l.from y b in
    sym f.number ∙ (d f.state g.state f.was_made g.was_made (f.stream ∙ (e ∙ sym g.stream)) ∙ g.number)

-- ---- one session changes

touched : (z t : Sessions) (x y : SessionState) → Touches z t y → WasMade z x → x.number ≡ y.number → x.stream ≡ y.stream → Lasts z t
touched z t x y u m n s = record { from = λ w made. by_case w (u.back w made) } where
  by_case : (w : SessionState) → (w ≡ y) ⊎ WasMade z w → From z w
  by_case w (inl e) = record { state = x; was_made = m; number = n ∙ ap (λ (v : SessionState). v.number) (sym e); stream = s ∙ ap (λ (v : SessionState). v.stream) (sym e) }
  by_case w (inr k) = itself z w k

placed : (z : Sessions) (h : Handle) (x y : SessionState) → session_at z h ≡ Some x → y.number ≡ x.number → y.stream ≡ x.stream → Lasts z (with_place z h.place (Some y))
placed z h x y e n s =
    let at : IsAt z h.place x = state_slot z h x e in touched z (with_place z h.place (Some y)) x y (touches_set z h.place x y at n) (inl (h.place, at)) (sym n) (sym s)

leaves_as : (z : Sessions) (h : Handle) (x y : SessionState) → session_at z h ≡ Some x → y.number ≡ x.number → y.stream ≡ x.stream → Lasts z (left z h y)
leaves_as z h x y e n s = let at : IsAt z h.place x = state_slot z h x e in touched z (left z h y) x y (touches_left z h x y at n) (inl (h.place, at)) (sym n) (sym s)

changes : (z : Sessions) (h : Handle) (x : SessionState) (v : Transcript) → session_at z h ≡ Some x → Lasts z (changed z h (with_transcript x v))
changes z h x v e = by_test (is_leaving (with_transcript x v)) where
  by_test : (b : Bool) → Lasts z (cond b (left z h (with_transcript x v)) (with_place z h.place (Some (with_transcript x v))))
  by_test true = leaves_as z h x (with_transcript x v) e refl refl
  by_test false = placed z h x (with_transcript x v) e refl refl

marks : (z : Sessions) (mark : Mark) (o : Option Handle) → Lasts z (mark_at z mark o)
marks z mark None = self z
marks z mark (Some h) = by_state (session_at z h) refl where
  by_going : (x : SessionState) → session_at z h ≡ Some x → (b : Bool) → Lasts z (cond b (changed z h (with_transcript x (with_mark x.view mark))) z)
  by_going x e true = changes z h x (with_mark x.view mark) e
  by_going x e false = self z

  by_state : (s : Option SessionState) → session_at z h ≡ s → Lasts z (mark_at z mark (Some h))
  by_state None e = rw e (self z)
  by_state (Some x) e = rw e (by_going x e (is_going x.view))

pub marks_on : (z : Sessions) (stream : ℕ) (mark : Mark) → Lasts z (after_mark z stream mark)
marks_on z stream mark = marks z mark (on_stream z stream)

pub expires : (z : Sessions) (now : ℕ) → Lasts z (after_expire z now)
expires z now = marks z (Expired now) (due z now)

pub says : (z : Sessions) (now : ℕ) (h : Handle) (saying : Saying) → Lasts z (after_say z now h saying)
says z now h saying = by_state (session_at z h) refl where
  by_state : (o : Option SessionState) → session_at z h ≡ o → Lasts z (after_say z now h saying)
  by_state None e = rw e (self z)
  by_state (Some x) e = rw e (changes z h x (having_said x.view now saying) e)

keeps : (z : Sessions) (now : ℕ) (m : Message) (o : Option Handle) → Lasts z (keep_at z now m o)
keeps z now m None = self z
keeps z now m (Some h) = by_state (session_at z h) refl where
  by_state : (o : Option SessionState) → session_at z h ≡ o → Lasts z (keep_at z now m (Some h))
  by_state None e = rw e (self z)
  by_state (Some x) e = rw e (changes z h x (after_received x.view now m Kept) e)

pub receives : (z : Sessions) (now stream : ℕ) (m : Message) (r : Received) → Lasts z (after_receive z now stream m r)
receives z now stream m Kept = keeps z now m (on_stream z stream)
receives z now stream m Ignored = self z
receives z now stream m Bad = self z

leaves : (z : Sessions) (h : Handle) (o : Option SessionState) → session_at z h ≡ o → Lasts z (leave_at z h o)
leaves z h None e = self z
leaves z h (Some x) e = leaves_as z h x x e refl refl

pub removes : (z : Sessions) (h : Handle) → Lasts z (after_remove z h)
removes z h = leaves z h (session_at z h) refl

pub polls : (z : Sessions) (h : Handle) (r : Result Progress SessionRefused) → Lasts z (after_poll z h r)
polls z h (Ok (Ended outcome)) = leaves z h (session_at z h) refl
polls z h _ = self z

pub adopts : (z : Sessions) (owner : ℕ) (h : Handle) → Lasts z (after_adopt z owner h)
adopts z owner h = by_state (session_at z h) refl where
  by_state : (o : Option SessionState) → session_at z h ≡ o → Lasts z (after_adopt z owner h)
  by_state None e = rw e (self z)
  by_state (Some x) e = rw e (placed z h x (with_owner x owner) e refl refl)

-- ---- a session begins on a stream that had none

pub starts : (z : Sessions) (now : ℕ) (b : Begin) (h : Handle) → start_reply z ≡ Ok h → ((x : SessionState) → WasMade z x → x.stream ≢ b.stream) → StreamsDiffer z → StreamsDiffer (after_start z now b (Ok h))
starts z now b h e none d x y p q same = by_case (u.back x p) (u.back y q) where
  new : SessionState
  new = begun_state now h.number b

  u : Touches z (after_start z now b (Ok h)) new
  u = let s = started z h e in touches_new z h new s.place s.empty

  by_case : (x ≡ new) ⊎ WasMade z x → (y ≡ new) ⊎ WasMade z y → x.number ≡ y.number
  by_case (inl i) (inl j) = ap (λ (v : SessionState). v.number) (i ∙ sym j)
  by_case (inl i) (inr j) = absurd (none y j (sym same ∙ ap (λ (v : SessionState). v.stream) i))
  by_case (inr i) (inl j) = absurd (none x i (same ∙ ap (λ (v : SessionState). v.stream) j))
  by_case (inr i) (inr j) = d x y i j same

-- ---- the session on a stream

abbrev live : List (Option SessionState) → List SessionState
live l = filter_map (λ x. x) l

none_later : (p : SessionState → Bool) (x : SessionState) (l : List SessionState) → find p (x ∷ l) ≡ None → (p x ≡ false) × (find p l ≡ None)
none_later p x l e = by_test (p x) refl e where
  by_test : (b : Bool) → p x ≡ b → cond b (Some x) (find p l) ≡ None → (p x ≡ false) × (find p l ≡ None)
  by_test true f g = absurd (cc)
  by_test false f g = (f, g)

-- where none passes, none that lies at a place passes
none_live : (p : SessionState → Bool) (l : List (Option SessionState)) (gone : List SessionState) (i : ℕ) (x : SessionState) → find p (live l ++ gone) ≡ None → slice_index_or l i None ≡ Some x → p x ≡ false
none_live p [] gone i x e at = absurd (cc)
none_live p (None ∷ l) gone zero x e at = absurd (cc)
none_live p (None ∷ l) gone (suc i) x e at = none_live p l gone i x e at
none_live p (Some y ∷ l) gone zero x e at = let same : y ≡ x = cc in ap p (sym same) ∙ (none_later p y (live l ++ gone) e).0
none_live p (Some y ∷ l) gone (suc i) x e at = none_live p l gone i x (none_later p y (live l ++ gone) e).1 at

none_front : (p : SessionState → Bool) (l : List (Option SessionState)) (gone : List SessionState) → find p (live l ++ gone) ≡ None → find p gone ≡ None
none_front p [] gone e = e
none_front p (None ∷ l) gone e = none_front p l gone e
none_front p (Some y ∷ l) gone e = none_front p l gone (none_later p y (live l ++ gone) e).1

none_gone : (p : SessionState → Bool) (l : List SessionState) (k : ℕ) (x : SessionState) → find p l ≡ None → k < length l → slice_index_or l k x ≡ x → p x ≡ false
none_gone p [] k x e h at = absurd (none_below k h) where
  none_below : (i : ℕ) → i < 0 → ⊥
  none_below i g = omega arith
none_gone p (y ∷ l) zero x e h at = ap p (sym at) ∙ (none_later p y l e).0
none_gone p (y ∷ l) (suc k) x e h at = none_gone p l k x (none_later p y l e).1 (below k (length l) h) at where
  below : (a b : ℕ) → suc a < suc b → a < b
  below a b g = omega arith

-- where none is found, none was made there
pub none_made : (z : Sessions) (stream : ℕ) → on_stream_made z stream ≡ None → (x : SessionState) → WasMade z x → x.stream ≢ stream
none_made z stream e x m on = by_case m where
  passes : (x.stream == stream) ≡ true
  passes = eq-eqb x.stream stream on

  by_case : WasMade z x → ⊥
  by_case (inl i) = true≢false (sym passes ∙ none_live (λ y. y.stream == stream) z.places z.gone i.0 x e i.1)
  by_case (inr i) = true≢false (sym passes ∙ none_gone (λ y. y.stream == stream) z.gone i.0 x (none_front (λ y. y.stream == stream) z.places z.gone e) i.1 i.2)

pub unseen_made : (z : Sessions) (stream : ℕ) → view_in z stream ≡ None → (x : SessionState) → WasMade z x → x.stream ≢ stream
unseen_made z stream e = by_option (on_stream_made z stream) refl e where
  by_option : (o : Option SessionState) → on_stream_made z stream ≡ o → option_map (λ x. x.view) o ≡ None → (x : SessionState) → WasMade z x → x.stream ≢ stream
  by_option None f g = none_made z stream f
  by_option (Some y) f g = absurd (cc)
