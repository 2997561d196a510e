-- What is done to the session of one stream leaves the sessions of other streams.
use Rattle.std.proofs.Common.{◌≡◌, ◌≢◌, ℕ, Bool, true, false, cond, ◌==◌, ◌⊎◌, inl, inr, List, ◌∷◌, Option, None, Some, Ok, slice_index_or, slice_set, refl, sym, ap, ◌∙◌, subst}
use Rattle.std.proofs.lemmas.Bool.{eqb-true}
use Rattle.std.proofs.lemmas.Bool.Decides.{eqb_tells}
use Rattle.std.proofs.lemmas.List.{get_or-set_other}
use Rattle.grasp_laws_session.proofs.Runs.{set_some, some_state}
use Rattle.grasp_laws_session.proofs.Says.{started}
use Rattle.grasp_laws_session.proofs.Streams.{oldest_least}
use Rattle.grasp_session.specs.Says.{IsAt, IsLeast, LookUpSays}
use Rattle.grasp_session.specs.Sessions.{SessionState, Sessions, with_transcript, begun_state, session_at, on_stream, with_place, left, is_leaving, changed, start_reply, after_start, keep_at, after_receive, mark_at, after_mark}
use Rattle.grasp_session.specs.Transcript.{Mark, is_going, with_mark, after_received}
use Rattle.grasp_session.specs.declared.answer.Received.TheVariants.{Kept}
use Rattle.grasp_session.specs.declared.begin.Begin.{Begin}
use Rattle.grasp_types.specs.declared.message.Message.{Message}
use Rattle.grasp_types.specs.declared.session.Handle.{Handle}
use Rattle.grasp_laws_node.specs.Alone.{OthersStay}

pub others_self : (stream : ℕ) (z : Sessions) → OthersStay stream z z
others_self stream z place x other = (λ e. e, λ e. e)

pub others_then : (stream : ℕ) (a b c : Sessions) → OthersStay stream a b → OthersStay stream b c → OthersStay stream a c
others_then stream a b c f g place x other = (λ e. (g place x other).0 ((f place x other).0 e), λ e. (f place x other).1 ((g place x other).1 e))

-- a place on which no session of another stream lies is set, and none is put there
pub set_others : (stream : ℕ) (z : Sessions) (made p : ℕ) (gone : List SessionState) (v : Option SessionState)
    → ((y : SessionState) → IsAt z p y → y.stream ≡ stream) → ((y : SessionState) → v ≡ Some y → y.stream ≡ stream)
    → OthersStay stream z (record { made = made; places = slice_set z.places p v; gone = gone })
set_others stream z made p gone v before now q x other = (λ e. still (eqb_tells q p) e, λ e. was (set_some z.places p v q x e)) where
  still : (((q == p) ≡ true) × (q ≡ p)) ⊎ (((q == p) ≡ false) × (q ≢ p)) → IsAt z q x → slice_index_or (slice_set z.places p v) q None ≡ Some x
  still (inl i) e = absurd (other (before x (subst (λ k. IsAt z k x) i.1 e)))
  still (inr i) e = get_or-set_other z.places p q v None i.1 ∙ e

  was : ((q ≡ p) × (v ≡ Some x)) ⊎ ((q ≢ p) × (slice_index_or z.places q None ≡ Some x)) → IsAt z q x
  was (inl i) = absurd (other (now x i.1))
  was (inr i) = i.1

pub no_session : (stream : ℕ) (y : SessionState) → None ≡ Some y → y.stream ≡ stream
no_session stream y e = absurd (cc)

-- the session of the stream changes
pub changed_others : (stream : ℕ) (z : Sessions) (h : Handle) (x y : SessionState) → IsAt z h.place x → x.stream ≡ stream → y.stream ≡ stream → OthersStay stream z (changed z h y)
changed_others stream z h x y at e f = by_test (is_leaving y) where
  before : (w : SessionState) → IsAt z h.place w → w.stream ≡ stream
  before w there = ap (λ (u : SessionState). u.stream) (some_state w x (sym there ∙ at)) ∙ e

  by_test : (b : Bool) → OthersStay stream z (cond b (left z h y) (with_place z h.place (Some y)))
  by_test true = set_others stream z z.made h.place (y ∷ z.gone) None before (no_session stream)
  by_test false = set_others stream z z.made h.place z.gone (Some y) before (λ w g. sym (ap (λ (u : SessionState). u.stream) (some_state y w g)) ∙ f)

least_on : (z : Sessions) (stream : ℕ) (h : Handle) → on_stream z stream ≡ Some h → IsLeast z (λ x. x.stream == stream) h
least_on z stream h e = subst (LookUpSays z (λ x. x.stream == stream)) e (oldest_least z (λ x. x.stream == stream))

-- a mark
pub marks_state : (stream : ℕ) (z : Sessions) (mark : Mark) (h : Handle) (x : SessionState) → session_at z h ≡ Some x → IsAt z h.place x → x.stream ≡ stream → OthersStay stream z (mark_at z mark (Some h))
marks_state stream z mark h x e at f = rw e (by_test (is_going x.view)) where
  by_test : (b : Bool) → OthersStay stream z (cond b (changed z h (with_transcript x (with_mark x.view mark))) z)
  by_test true = changed_others stream z h x (with_transcript x (with_mark x.view mark)) at f f
  by_test false = others_self stream z

marks : (stream : ℕ) (z : Sessions) (mark : Mark) (o : Option Handle) → on_stream z stream ≡ o → OthersStay stream z (mark_at z mark o)
marks stream z mark None e = others_self stream z
marks stream z mark (Some h) e = let l = least_on z stream h e in marks_state stream z mark h l.state l.at l.place (eqb-true l.state.stream stream l.passes)

pub mark_others : (stream : ℕ) (z : Sessions) (mark : Mark) → OthersStay stream z (after_mark z stream mark)
mark_others stream z mark = marks stream z mark (on_stream z stream) refl

-- a message that is kept
keeps_state : (stream : ℕ) (z : Sessions) (now : ℕ) (m : Message) (h : Handle) (x : SessionState) → session_at z h ≡ Some x → IsAt z h.place x → x.stream ≡ stream
    → OthersStay stream z (keep_at z now m (Some h))
keeps_state stream z now m h x e at f = rw e (changed_others stream z h x (with_transcript x (after_received x.view now m Kept)) at f f)

keeps : (stream : ℕ) (z : Sessions) (now : ℕ) (m : Message) (o : Option Handle) → on_stream z stream ≡ o → OthersStay stream z (keep_at z now m o)
keeps stream z now m None e = others_self stream z
keeps stream z now m (Some h) e = let l = least_on z stream h e in keeps_state stream z now m h l.state l.at l.place (eqb-true l.state.stream stream l.passes)

pub keep_others : (stream : ℕ) (z : Sessions) (now : ℕ) (m : Message) → OthersStay stream z (after_receive z now stream m Kept)
keep_others stream z now m = keeps stream z now m (on_stream z stream) refl

-- a session that begins
pub start_others : (stream : ℕ) (z : Sessions) (now : ℕ) (b : Begin) (h : Handle) → b.stream ≡ stream → start_reply z ≡ Ok h → OthersStay stream z (after_start z now b (Ok h))
start_others stream z now b h f e =
    set_others stream z h.number h.place z.gone (Some (begun_state now h.number b))
    (λ y at. no_session stream y (sym (started z h e).empty ∙ at))
    (λ y g. sym (ap (λ (u : SessionState). u.stream) (some_state (begun_state now h.number b) y g)) ∙ f)
