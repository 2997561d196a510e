-- Where the session on a stream is found, and how it stands.
use Rattle.std.proofs.Common.{◌≡◌, ◌≢◌, ℕ, ◌==◌, Bool, true, false, cond, not, Option, Some, None, refl, sym, ap, ◌∙◌}
use Rattle.std.specs.Bool.{Decides}
use Rattle.std.proofs.lemmas.Bool.{false≢true, eqb-true, eq-eqb, not-true}
use Rattle.std.proofs.lemmas.Bool.Decides.{Decides-and, Decides-eqb, not_from_Decides}
use Rattle.std.proofs.lemmas.List.{get_or-set_same}
use Rattle.grasp_session.specs.Runs.{AreInOrder}
use Rattle.grasp_session.specs.Says.{IsAt, LookUpSays}
use Rattle.grasp_session.specs.Sessions.{SessionState, Sessions, with_transcript, session_at, found, on_stream, with_place, left, is_leaving, changed, receive_reply, after_receive, keep_at, mark_at, after_mark, state_reply}
use Rattle.grasp_session.specs.Transcript.{Mark, is_going, session_of, receive, after_received, with_mark}
use Rattle.grasp_session.specs.declared.answer.Received.{Received}
use Rattle.grasp_session.specs.declared.answer.Received.TheVariants.{Kept, Ignored}
use Rattle.grasp_types.specs.declared.message.Message.{Message}
use Rattle.grasp_types.specs.declared.session.Handle.{Handle}
use Rattle.grasp_laws_node.proofs.Consistent.Table.{one_on, changed_on, state_lies, none_lies}
use Rattle.grasp_laws_session.proofs.Runs.{at_below}
use Rattle.grasp_laws_session.proofs.Streams.{oldest_least}
use Rattle.grasp_model_node.specs.Hear.{goes_on}
use Rattle.grasp_laws_hearing.specs.Later.{IsNow}

-- ---- the session on a stream

pub record FoundOn (z : Sessions) (stream place : ℕ) (x : SessionState) : Type 0 where
  pub number : ℕ
  pub found : on_stream z stream ≡ Some (record { place = place; number = number })
  pub at : session_at z (record { place = place; number = number }) ≡ Some x

pub found_on : (z : Sessions) → AreInOrder z → (stream place : ℕ) (x : SessionState) → IsAt z place x → x.stream ≡ stream → FoundOn z stream place x
found_on z o stream place x at on = by (on_stream z stream) refl (oldest_least z (λ y. y.stream == stream)) where
  by : (h : Option Handle) → on_stream z stream ≡ h → LookUpSays z (λ y. y.stream == stream) h → FoundOn z stream place x
  by None e none = absurd (false≢true (sym (none place x at) ∙ eq-eqb x.stream stream on))
  by (Some h) e l =
      let there : l.state.stream ≡ x.stream = eqb-true l.state.stream stream l.passes ∙ sym on in
      let same : h.place ≡ place = o.streams h.place place l.state x l.place at there in
      record {
        number = h.number;
        found = e ∙ ap (λ (p : ℕ). Some (record { place = p; number = h.number })) same;
        at = ap (λ (p : ℕ). session_at z (record { place = p; number = h.number })) (sym same) ∙ (l.at ∙ ap (λ (y : SessionState). Some y) (one_on z o h.place place l.state x l.place at there));
      }

state_in : Option SessionState → Option (ℕ × Bool)
state_in None = None
state_in (Some x) = Some (session_of x.view, not (is_going x.view))

received_in : Message → Option SessionState → Received
received_in m None = Ignored
received_in m (Some x) = receive x.view m

pub state_on : (z : Sessions) (stream place : ℕ) (x : SessionState) → FoundOn z stream place x → state_reply z stream ≡ Some (session_of x.view, not (is_going x.view))
unfolding state_in
state_on z stream place x f = ap (λ o. state_in (found z o)) f.found ∙ ap state_in f.at

pub received_on : (z : Sessions) (stream place : ℕ) (x : SessionState) (m : Message) → FoundOn z stream place x → receive_reply z stream m ≡ receive x.view m
unfolding received_in
received_on z stream place x m f = ap (λ o. received_in m (found z o)) f.found ∙ ap (received_in m) f.at

-- no session is on it
pub none_on : (z : Sessions) (stream : ℕ) → ((place : ℕ) (x : SessionState) → IsAt z place x → x.stream ≢ stream) → state_reply z stream ≡ None
none_on z stream none = by (state_reply z stream) refl where
  by : (o : Option (ℕ × Bool)) → state_reply z stream ≡ o → o ≡ None
  by None e = refl
  by (Some state) e = let l = state_lies z stream state e in absurd (none l.place l.session l.at l.on)

-- ---- a session that changes

leaves_decide : (x : SessionState) → Decides (is_leaving x) ((x.owner ≡ 0) × (is_going x.view ≡ false))
leaves_decide x = Decides-and (x.owner == 0) (not (is_going x.view)) (Decides-eqb x.owner 0) (not-true (is_going x.view), λ e. ap not e)

pub is_now : (z : Sessions) (h : Handle) (x : SessionState) → IsNow z h.place x (changed z h x)
is_now z h x = by (is_leaving x) (leaves_decide x) where
  by : (b : Bool) → Decides b ((x.owner ≡ 0) × (is_going x.view ≡ false)) → IsNow z h.place x (cond b (left z h x) (with_place z h.place (Some x)))
  by true d = record { stays = λ no. absurd (no (d.0 refl)); leaves = λ a b. refl }
  by false d = record { stays = λ no. refl; leaves = λ a b. absurd (not_from_Decides false d refl (a, b)) }

-- the stream of a session that changes goes on where the session does
pub open_after : (z : Sessions) (h : Handle) (stream : ℕ) (x y : SessionState) → AreInOrder z → session_at z h ≡ Some x → IsAt z h.place x → x.stream ≡ stream → y.stream ≡ x.stream
    → goes_on (state_reply (changed z h y) stream) ≡ is_going y.view
open_after z h stream x y o at place on same = by (state_reply (changed z h y) stream) refl where
  not_twice : (b : Bool) → not (not b) ≡ b
  not_twice true = refl
  not_twice false = refl

  -- one that stays is there
  stays_there : (b : Bool) → is_leaving y ≡ b → ((p : ℕ) (w : SessionState) → IsAt (cond b (left z h y) (with_place z h.place (Some y))) p w → w.stream ≢ stream) → false ≡ is_going y.view
  stays_there true e none = sym ((leaves_decide y).0 e).1
  stays_there false e none = absurd (none h.place y (get_or-set_same z.places h.place (Some y) None (at_below z.places h.place x place)) (same ∙ on))

  by : (s : Option (ℕ × Bool)) → state_reply (changed z h y) stream ≡ s → goes_on s ≡ is_going y.view
  by None e = stays_there (is_leaving y) refl (none_lies (changed z h y) stream e)
  by (Some state) e =
      let l = state_lies (changed z h y) stream state e in
      let it : y ≡ l.session = changed_on z h x y o at l.place l.session l.at (l.on ∙ sym on) in
      sym (ap not l.ends) ∙ (not_twice (is_going l.session.view) ∙ ap (λ (w : SessionState). is_going w.view) (sym it))

-- ---- a message that is kept, and a mark

keeps_in : Sessions → ℕ → Message → Handle → Option SessionState → Sessions
keeps_in z now m h None = z
keeps_in z now m h (Some x) = changed z h (with_transcript x (after_received x.view now m Kept))

pub kept_on : (z : Sessions) (now stream place : ℕ) (x : SessionState) (m : Message) (f : FoundOn z stream place x)
    → after_receive z now stream m Kept ≡ changed z (record { place = place; number = f.number }) (with_transcript x (after_received x.view now m Kept))
unfolding keeps_in
kept_on z now stream place x m f = ap (keep_at z now m) f.found ∙ ap (keeps_in z now m (record { place = place; number = f.number })) f.at

marks_in : Sessions → Mark → Handle → Option SessionState → Sessions
marks_in z mark h None = z
marks_in z mark h (Some x) = cond (is_going x.view) (changed z h (with_transcript x (with_mark x.view mark))) z

pub marked_on : (z : Sessions) (stream place : ℕ) (x : SessionState) (mark : Mark) (f : FoundOn z stream place x)
    → after_mark z stream mark ≡ cond (is_going x.view) (changed z (record { place = place; number = f.number }) (with_transcript x (with_mark x.view mark))) z
unfolding marks_in
marked_on z stream place x mark f = ap (mark_at z mark) f.found ∙ ap (marks_in z mark (record { place = place; number = f.number })) f.at

-- where no session on the stream goes on, a mark changes nothing
pub unmarked : (z : Sessions) (stream : ℕ) (mark : Mark) → AreInOrder z → ((place : ℕ) (x : SessionState) → IsAt z place x → x.stream ≡ stream → is_going x.view ≡ false) → after_mark z stream mark ≡ z
unfolding marks_in
unmarked z stream mark o none = by (on_stream z stream) refl (oldest_least z (λ y. y.stream == stream)) where
  by : (h : Option Handle) → on_stream z stream ≡ h → LookUpSays z (λ y. y.stream == stream) h → mark_at z mark h ≡ z
  by None e l = refl
  by (Some h) e l =
      ap (marks_in z mark h) l.at
      ∙ ap (λ b. cond b (changed z h (with_transcript l.state (with_mark l.state.view mark))) z) (none h.place l.state l.place (eqb-true l.state.stream stream l.passes))
