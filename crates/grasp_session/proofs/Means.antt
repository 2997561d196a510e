-- What each accepting answer of a table means, for the crates above.
use Rattle.std.proofs.Common.{◌≡◌, ℕ, Option, Some, None, Result, Ok, Err, refl, sym, ◌∙◌}
use Rattle.grasp_types.specs.declared.session.Handle.{Handle}
use Rattle.grasp_types.specs.declared.message.Message.{Message}
use Rattle.grasp_session.specs.declared.answer.Act.{Act}
use Rattle.grasp_session.specs.declared.answer.Received.{Received}
use Rattle.grasp_session.specs.declared.answer.Received.TheVariants.{Kept, Ignored}
use Rattle.grasp_session.specs.declared.answer.SessionRefused.{SessionRefused}
use Rattle.grasp_session.specs.declared.answer.SessionRefused.TheVariants.{NoSession}
use Rattle.grasp_session.specs.Transcript.{Saying, refusal, message_of, having_said, receive, after_received}
use Rattle.grasp_session.specs.declared.session.Session.{Session}
use Rattle.grasp_session.specs.declared.table.Table.{Table}
use Rattle.grasp_session.specs.declared.wanted.Wanted.TheVariants.{OnStream}
use Rattle.grasp_session.specs.Stands.{Stands, kept_at, oldest_in, state_answer}
use Rattle.grasp_session.proofs.Calls.{state_none, state_some, answer_none, answer_some}
use Rattle.grasp_session.proofs.Facts.{owned_at}
use Rattle.grasp_session.proofs.Tables.{oldest_stands, find_none}
use Rattle.grasp_session.specs.Sessions.{SessionState, Sessions, with_transcript, if_refused, session_at, session_owned, found, on_stream, changed, check_reply, say_reply, after_say, receive_reply, after_receive, state_reply}

-- a check that answers Ok: the session is there, this owner's, and nothing refuses the act
pub record Checked (z : Sessions) (owner : ℕ) (h : Handle) (act : Act) : Type 0 where
  pub state : SessionState
  pub at : session_at z h ≡ Some state
  pub owned : session_owned z owner h ≡ Some state
  pub allowed : refusal state.view act ≡ None

not_refused : (o : Option SessionRefused) → if_refused o ≡ Ok tt → o ≡ None
not_refused None e = refl
not_refused (Some refused) e = absurd (cc)

abbrev answer : Act → Option SessionState → Result (Unit {0}) SessionRefused
answer act None = Err NoSession
answer act (Some x) = if_refused (refusal x.view act)

pub checked_means : (z : Sessions) (owner : ℕ) (h : Handle) (act : Act) → check_reply z owner h act ≡ Ok tt → Checked z owner h act
checked_means z owner h act e = by_state (session_owned z owner h) refl e where
  by_state : (o : Option SessionState) → session_owned z owner h ≡ o → answer act o ≡ Ok tt → Checked z owner h act
  by_state None f g = absurd (cc)
  by_state (Some x) f g = record { state = x; at = owned_at owner (session_at z h) x f; owned = f; allowed = not_refused (refusal x.view act) g }

-- what is said then, and what the sessions are after it
pub record Said (z : Sessions) (now : ℕ) (h : Handle) (saying : Saying) (x : SessionState) : Type 0 where
  pub message : say_reply z h saying ≡ message_of x.view saying
  pub after : after_say z now h saying ≡ changed z h (with_transcript x (having_said x.view now saying))

pub said_means : (z : Sessions) (now : ℕ) (h : Handle) (saying : Saying) (x : SessionState) → session_at z h ≡ Some x → Said z now h saying x
said_means z now h saying x e = record { message = rw e refl; after = rw e refl }

-- a message that is kept: the session on the stream keeps it
pub record IsKept (z : Sessions) (now stream : ℕ) (m : Message) : Type 0 where
  pub handle : Handle
  pub state : SessionState
  pub on : on_stream z stream ≡ Some handle
  pub at : session_at z handle ≡ Some state
  pub keeps : receive state.view m ≡ Kept
  pub after : after_receive z now stream m Kept ≡ changed z handle (with_transcript state (after_received state.view now m Kept))

abbrev kind_of : Message → Option SessionState → Received
kind_of m None = Ignored
kind_of m (Some x) = receive x.view m

pub kept_means : (z : Sessions) (now stream : ℕ) (m : Message) → receive_reply z stream m ≡ Kept → IsKept z now stream m
kept_means z now stream m e = by_handle (on_stream z stream) refl e where
  by_state : (h : Handle) → on_stream z stream ≡ Some h → (o : Option SessionState) → session_at z h ≡ o → kind_of m o ≡ Kept → IsKept z now stream m
  by_state h f None g k = absurd (cc)
  by_state h f (Some x) g k = record { handle = h; state = x; on = f; at = g; keeps = k; after = rw (f, g) refl }

  by_handle : (o : Option Handle) → on_stream z stream ≡ o → kind_of m (found z o) ≡ Kept → IsKept z now stream m
  by_handle None f g = absurd (cc)
  by_handle (Some h) f g = by_state h f (session_at z h) refl g

-- what `state` answers of a table, by its sessions
pub state_same : (t : Table) (z : Sessions) (stream : ℕ) → Stands t z → state_answer t stream ≡ state_reply z stream
state_same t z stream st = by_handle (oldest_in (OnStream stream) t.places) refl where
  by_kept : (h : Handle) → Some h ≡ oldest_in (OnStream stream) t.places → (o : Option Session) → o ≡ kept_at t.places h → state_answer t stream ≡ state_reply z stream
  by_kept h e None f =
      let on : on_stream z stream ≡ Some h = sym (e ∙ oldest_stands (OnStream stream) t z st) in
      rw (on, find_none t z h st (sym f), sym e, sym f) refl
  by_kept h e (Some s) f = sym (answer_some t stream h s e f) ∙ state_some t z stream h s st e f

  by_handle : (o : Option Handle) → o ≡ oldest_in (OnStream stream) t.places → state_answer t stream ≡ state_reply z stream
  by_handle None e = sym (answer_none t stream e) ∙ state_none t z stream st e
  by_handle (Some h) e = by_kept h e (kept_at t.places h) refl
