-- A session that no agent has taken has its request alone.
use Rattle.std.proofs.Common.{◌≡◌, ◌≢◌, ℕ, ◌<◌, Bool, true, false, cond, not, ◌&&◌, List, ◌⊎◌, inl, inr, Option, Some, None, is_none, Result, Ok, Err, slice_set, nat_lt, ◌==◌, refl, sym, ap, ◌∙◌, subst, arith}
use Rattle.std.proofs.lemmas.Bool.{true≢false, and_parts, and_from, and_right, eq-eqb, eqb-true}
use Rattle.grasp_types.specs.declared.session.Handle.{Handle}
use Rattle.grasp_types.specs.declared.session.Kind.{Kind}
use Rattle.grasp_types.specs.declared.session.Kind.TheVariants.{Negotiation, Synchronization}
use Rattle.grasp_types.specs.declared.session.Progress.{Progress}
use Rattle.grasp_types.specs.declared.session.Progress.TheVariants.{Ended}
use Rattle.grasp_types.specs.declared.objective.Objective.{Objective}
use Rattle.grasp_types.specs.declared.message.Message.{Message}
use Rattle.grasp_types.specs.declared.message.Message.TheVariants.{ReqNeg, Negotiate, Wait, End, Synch, Invalid}
use Rattle.grasp_session.specs.declared.answer.Received.{Received}
use Rattle.grasp_session.specs.declared.answer.Received.TheVariants.{Kept, Ignored, Bad}
use Rattle.grasp_session.specs.declared.answer.SessionRefused.{SessionRefused}
use Rattle.grasp_session.specs.declared.begin.Begin.{Begin}
use Rattle.grasp_session.specs.Messages.{is_last}
use Rattle.grasp_session.specs.Transcript.{Mark, Expired, Transcript, waits_of, opening, is_going, is_mine, is_awaited, is_good_step, is_negotiation, Saying, act_of, having_said, receive_going, with_kept, with_mark}
use Rattle.grasp_session.specs.Sessions.{SessionState, Sessions, with_transcript, with_owner, role_of, begun_state, if_owner, session_at, with_place, left, is_leaving, changed, on_stream, due, start_reply, IsProper, after_start, check_reply, after_say, receive_reply, after_receive, after_poll, leave_at, mark_at, after_adopt}
use Rattle.grasp_session.specs.Says.{IsAt}
use Rattle.grasp_session.specs.Runs.{Begins, Speaks, Takes, Polls, EndsBy, Expires, Adopts, Removes}
use Rattle.grasp_session.specs.Made.{IsFresh, AreFresh, IsLastSaying, NoneAreFresh, FreshStay}
use Rattle.grasp_laws_session.proofs.Bounds.{going_test}
use Rattle.grasp_session.proofs.Facts.{kept_test, last_said, not_awaited}
use Rattle.grasp_session.proofs.Tables.{state_slot}
use Rattle.grasp_session.proofs.Means.{checked_means, said_means, kept_means}
use Rattle.grasp_laws_session.proofs.Runs.{set_some, some_state, none_live}

pub none_fresh : NoneAreFresh
none_fresh p x e = absurd (none_live 64 p x e)

pub my_turn_keeps : (v : Transcript) (m : Message) → is_mine v ≡ true → receive_going v m ≡ Kept → is_last m ≡ true
my_turn_keeps v (ReqNeg n o) e f = absurd (cc)
my_turn_keeps v (Negotiate n o) e f =
    let k = and_parts (is_negotiation v.kind) (is_awaited v n && is_good_step v o)
    (kept_test (is_negotiation v.kind && (is_awaited v n && is_good_step v o)) f) in
    absurd (not_awaited v n e (and_parts (is_awaited v n) (is_good_step v o) k.1).0)
my_turn_keeps v (Wait n t) e f =
    absurd (not_awaited v n e (and_parts (is_awaited v n) (nat_lt (waits_of v) 4) (kept_test (is_awaited v n && nat_lt (waits_of v) 4) f)).0)
my_turn_keeps v (End n d) e f = refl
my_turn_keeps v (Synch n o) e f = refl
my_turn_keeps v (Invalid n d) e f = refl
my_turn_keeps v m e f = absurd (cc)

fresh_mine : (v : Transcript) → IsFresh v → is_mine v ≡ true
fresh_mine v f = ap is_mine f.fresh

last_kept : (v : Transcript) (now : ℕ) (m : Message) → is_last m ≡ true → is_going (with_kept v now m) ≡ false
last_kept v now m e = and_right (is_none v.mark) (not (is_last m)) (ap not e)

abbrev SetCase : Sessions → ℕ → Option SessionState → ℕ → SessionState → Type 0
SetCase z p v q x = ((q ≡ p) × (v ≡ Some x)) ⊎ ((q ≢ p) × IsAt z q x)

-- a session leaves, or is another that is fresh where no agent has taken it
fresh_left : (z : Sessions) (h : Handle) (y : SessionState) → AreFresh z → AreFresh (left z h y)
fresh_left z h y f q w e o = by_case (set_some z.places h.place None q w e) where
  by_case : SetCase z h.place None q w → IsFresh w.view
  by_case (inl i) = absurd (cc)
  by_case (inr i) = f q w i.1 o

fresh_set : (z : Sessions) (made p : ℕ) (gone : List SessionState) (y : SessionState) → AreFresh z → (y.owner ≡ 0 → IsFresh y.view)
    → AreFresh (record { made = made; places = slice_set z.places p (Some y); gone = gone })
fresh_set z made p gone y f g q w e o = by_case (set_some z.places p (Some y) q w e) where
  by_case : SetCase z p (Some y) q w → IsFresh w.view
  by_case (inl i) = let same = some_state y w i.1 in subst (λ (u : SessionState). IsFresh u.view) same (g (ap (λ (u : SessionState). u.owner) same ∙ o))
  by_case (inr i) = f q w i.1 o

fresh_changed : (z : Sessions) (h : Handle) (y : SessionState) → AreFresh z → (y.owner ≡ 0 → is_going y.view ≡ false) → AreFresh (changed z h y)
fresh_changed z h y f g = by_test (is_leaving y) refl where
  by_test : (b : Bool) → is_leaving y ≡ b → AreFresh (cond b (left z h y) (with_place z h.place (Some y)))
  by_test true e = fresh_left z h y f
  by_test false e =
      fresh_set z z.made h.place z.gone y f
      (λ o. absurd (true≢false (sym (and_from (y.owner == 0) (not (is_going y.view)) (eq-eqb y.owner 0 o) (ap not (g o))) ∙ e)))

-- start
fresh_opening : (kind : Kind) (requester : Bool) (timeout now session : ℕ) (o : Objective) → (kind ≡ Synchronization → requester ≡ true) → requester ≡ false
    → IsFresh (opening kind (role_of requester) timeout now session o)
fresh_opening Negotiation requester timeout now session o f e =
    record { timeout = timeout; now = now; session = session; objective = o; fresh = ap (λ b. opening Negotiation (role_of b) timeout now session o) e }
fresh_opening Synchronization requester timeout now session o f e = absurd (true≢false (sym (f refl) ∙ e))

begins_fresh : (z : Sessions) (now : ℕ) (b : Begin) (r : Result Handle SessionRefused) → IsProper b → AreFresh z → AreFresh (after_start z now b r)
begins_fresh z now b (Ok h) proper f =
    fresh_set z h.number h.place z.gone (begun_state now h.number b) f
    (λ o. fresh_opening b.kind b.requester b.timeout now b.session b.objective proper.synchronization (proper.untaken o))
begins_fresh z now b (Err refused) proper f = f

-- step, wait, end and invalid
pub owned_by : (owner : ℕ) (o : Option SessionState) (x : SessionState) → if_owner (λ y. y.owner) owner o ≡ Some x → x.owner ≡ owner
owned_by owner None x e = absurd (cc)
owned_by owner (Some y) x e = by_test (y.owner == owner) refl e where
  by_test : (b : Bool) → y.owner == owner ≡ b → cond b (Some y) None ≡ Some x → x.owner ≡ owner
  by_test true f g = sym (ap (λ (u : SessionState). u.owner) (some_state y x g)) ∙ eqb-true y.owner owner f
  by_test false f g = absurd (cc)

speaks_fresh : (z : Sessions) (now owner : ℕ) (h : Handle) (sg : Saying) → check_reply z owner h (act_of sg) ≡ Ok tt → (owner ≡ 0 → IsLastSaying sg)
    → AreFresh z → AreFresh (after_say z now h sg)
speaks_fresh z now owner h sg e g f =
    let c = checked_means z owner h (act_of sg) e in
    let own : c.state.owner ≡ owner = owned_by owner (session_at z h) c.state c.owned in
    subst AreFresh (sym (said_means z now h sg c.state c.at).after)
    (fresh_changed z h (with_transcript c.state (having_said c.state.view now sg)) f (λ o. last_said c.state.view now sg (g (sym own ∙ o))))

-- receive
takes_fresh : (z : Sessions) (now stream : ℕ) (m : Message) (r : Received) → receive_reply z stream m ≡ r → AreFresh z
    → AreFresh (after_receive z now stream m r)
takes_fresh z now stream m Kept e f =
    let k = kept_means z now stream m e in
    subst AreFresh (sym k.after) (fresh_changed z k.handle (with_transcript k.state (with_kept k.state.view now m)) f (λ o.
    last_kept k.state.view now m
    (my_turn_keeps k.state.view m (fresh_mine k.state.view (f k.handle.place k.state (state_slot z k.handle k.state k.at) o)) (going_test (is_going k.state.view) (receive_going k.state.view m) k.keeps))))
takes_fresh z now stream m Ignored e f = f
takes_fresh z now stream m Bad e f = f

-- poll and remove
goes_fresh : (z : Sessions) (h : Handle) (o : Option SessionState) → AreFresh z → AreFresh (leave_at z h o)
goes_fresh z h None f = f
goes_fresh z h (Some x) f = fresh_left z h x f

polls_fresh : (z : Sessions) (h : Handle) (r : Result Progress SessionRefused) → AreFresh z → AreFresh (after_poll z h r)
polls_fresh z h (Ok (Ended o)) f = goes_fresh z h (session_at z h) f
polls_fresh z h _ f = f

-- closed, starved, bad and expire_one
marks_state_fresh : (z : Sessions) (mark : Mark) (h : Handle) (o : Option SessionState) → session_at z h ≡ o → AreFresh z → AreFresh (mark_at z mark (Some h))
marks_state_fresh z mark h None e f = rw e f
marks_state_fresh z mark h (Some x) e f = rw e (by_test (is_going x.view)) where
  by_test : (b : Bool) → AreFresh (cond b (changed z h (with_transcript x (with_mark x.view mark))) z)
  by_test true = fresh_changed z h (with_transcript x (with_mark x.view mark)) f (λ o. refl)
  by_test false = f

marks_fresh : (z : Sessions) (mark : Mark) (o : Option Handle) → AreFresh z → AreFresh (mark_at z mark o)
marks_fresh z mark None f = f
marks_fresh z mark (Some h) f = marks_state_fresh z mark h (session_at z h) refl f

-- adopt
adopts_fresh : (z : Sessions) (owner : ℕ) (h : Handle) (o : Option SessionState) → session_at z h ≡ o → 0 < owner → AreFresh z
    → AreFresh (after_adopt z owner h)
adopts_fresh z owner h None e n f = rw e f
adopts_fresh z owner h (Some x) e n f = rw e (fresh_set z z.made h.place z.gone (with_owner x owner) f (λ o. absurd (omega (arith, n, o))))

pub fresh_stay : FreshStay
fresh_stay z (Begins now begin) f m n = begins_fresh z now begin (start_reply z) m.1 f
fresh_stay z (Speaks now owner h sg) f m n = speaks_fresh z now owner h sg m n f
fresh_stay z (Takes now stream message) f m n = takes_fresh z now stream message (receive_reply z stream message) refl f
fresh_stay z (Polls owner h result) f m n = polls_fresh z h result f
fresh_stay z (EndsBy stream mark) f m n = marks_fresh z mark (on_stream z stream) f
fresh_stay z (Expires now) f m n = marks_fresh z (Expired now) (due z now) f
fresh_stay z (Adopts owner h) f m n = adopts_fresh z owner h (session_at z h) refl m.1 f
fresh_stay z (Removes h) f m n = goes_fresh z h (session_at z h) f
