-- All that the live sessions of a node sent and kept are messages: each call on a table leaves it so.
use Rattle.std.proofs.Common.{◌≡◌, refl, ℕ, zero, suc, ◌<◌, ◌^◌, ◌==◌, Bool, true, false, cond, List, [], ◌∷◌, Option, None, Some, Result, Ok, Err, slice_set, slice_index_or, All}
use Rattle.std.proofs.lemmas.List.Elements.{All-head, All-tail, All-set}
use Rattle.grasp_session.specs.Sessions.{SessionState, Sessions, with_transcript, with_owner, begun_state, if_number, session_at, found, on_stream, with_place, left, is_leaving, changed, due, after_start, say_reply, after_say, keep_at, after_receive, after_poll, leave_at, mark_at, after_mark, after_expire, state_reply, after_adopt, after_remove}
use Rattle.grasp_session.specs.Transcript.{Mark, Expired, request_message, is_going, Saying, having_said, with_kept, with_mark}
use Rattle.grasp_session.specs.declared.answer.Received.{Received}
use Rattle.grasp_session.specs.declared.answer.Received.TheVariants.{Kept, Ignored, Bad}
use Rattle.grasp_session.specs.declared.answer.SessionRefused.{SessionRefused}
use Rattle.grasp_session.specs.declared.begin.Begin.{Begin}
use Rattle.grasp_types.specs.Message.{IsMessage}
use Rattle.grasp_types.specs.Objective.{IsObjective}
use Rattle.grasp_types.specs.declared.message.Message.{Message}
use Rattle.grasp_types.specs.declared.objective.Objective.{Objective}
use Rattle.grasp_types.specs.declared.session.Handle.{Handle}
use Rattle.grasp_types.specs.declared.session.Kind.{Kind}
use Rattle.grasp_types.specs.declared.session.Kind.TheVariants.{Negotiation, Synchronization}
use Rattle.grasp_types.specs.declared.session.Progress.{Progress}
use Rattle.grasp_types.specs.declared.session.Progress.TheVariants.{Ended}
use Rattle.grasp_laws_delivery.proofs.Fine.Said.{AreEntries, IsSaying, session_small, message_is}

-- what a live session sent and kept
abbrev pub IsFine : Option SessionState → Type 0
IsFine None = Unit {0}
IsFine (Some x) = AreEntries x.view.entries

abbrev pub AreFine : Sessions → Type 0
AreFine z = All IsFine z.places

place_fine : (xs : List (Option SessionState)) (i : ℕ) → All IsFine xs → IsFine (slice_index_or xs i None)
place_fine [] i f = tt
place_fine (x ∷ xs) zero f = All-head IsFine x xs f
place_fine (x ∷ xs) (suc i) f = place_fine xs i (All-tail IsFine x xs f)

numbered_fine : (n : ℕ) (o : Option SessionState) → IsFine o → IsFine (if_number (λ x. x.number) n o)
numbered_fine n None f = tt
numbered_fine n (Some x) f = by_test (x.number == n) where
  by_test : (b : Bool) → IsFine (cond b (Some x) None)
  by_test true = f
  by_test false = tt

pub at_fine : (z : Sessions) (h : Handle) → AreFine z → IsFine (session_at z h)
at_fine z h f = numbered_fine h.number (slice_index_or z.places h.place None) (place_fine z.places h.place f)

found_fine : (z : Sessions) (o : Option Handle) → AreFine z → IsFine (found z o)
found_fine z None f = tt
found_fine z (Some h) f = at_fine z h f

-- ---- one session is another now

set_fine : (z : Sessions) (i : ℕ) (o : Option SessionState) → AreFine z → IsFine o → All IsFine (slice_set z.places i o)
set_fine z i o f k = All-set IsFine z.places i o k f

changed_fine : (z : Sessions) (h : Handle) (x : SessionState) → AreFine z → AreEntries x.view.entries → AreFine (changed z h x)
changed_fine z h x f k = by_test (is_leaving x) where
  by_test : (b : Bool) → AreFine (cond b (left z h x) (with_place z h.place (Some x)))
  by_test true = set_fine z h.place None f tt
  by_test false = set_fine z h.place (Some x) f k

request_is : (kind : Kind) (session : ℕ) (o : Objective) → session < 2 ^ 32 → IsObjective o → IsMessage (request_message kind session o)
request_is Negotiation session o h k = (h, k)
request_is Synchronization session o h k = (h, k)

pub start_fine : (z : Sessions) (now : ℕ) (b : Begin) (r : Result Handle SessionRefused) → b.session < 2 ^ 32 → IsObjective b.objective → AreFine z → AreFine (after_start z now b r)
start_fine z now b (Ok h) small is f = set_fine z h.place (Some (begun_state now h.number b)) f (request_is b.kind b.session b.objective small is, tt)
start_fine z now b (Err refused) small is f = f

pub say_fine : (z : Sessions) (now : ℕ) (h : Handle) (saying : Saying) → IsSaying saying → AreFine z → AreFine (after_say z now h saying)
say_fine z now h saying is f = by_state (session_at z h) refl (at_fine z h f) where
  by_state : (o : Option SessionState) → session_at z h ≡ o → IsFine o → AreFine (after_say z now h saying)
  by_state None e k = rw e f
  by_state (Some x) e k = rw e (changed_fine z h (with_transcript x (having_said x.view now saying)) f (message_is x.view saying k is, k))

pub reply_is : (z : Sessions) (h : Handle) (saying : Saying) → IsSaying saying → AreFine z → IsMessage (say_reply z h saying)
reply_is z h saying is f = by_state (session_at z h) refl (at_fine z h f) where
  by_state : (o : Option SessionState) → session_at z h ≡ o → IsFine o → IsMessage (say_reply z h saying)
  by_state None e k = rw e tt
  by_state (Some x) e k = rw e (message_is x.view saying k is)

keep_fine : (z : Sessions) (now : ℕ) (m : Message) (o : Option Handle) → IsMessage m → AreFine z → AreFine (keep_at z now m o)
keep_fine z now m None is f = f
keep_fine z now m (Some h) is f = by_state (session_at z h) refl (at_fine z h f) where
  by_state : (o : Option SessionState) → session_at z h ≡ o → IsFine o → AreFine (keep_at z now m (Some h))
  by_state None e k = rw e f
  by_state (Some x) e k = rw e (changed_fine z h (with_transcript x (with_kept x.view now m)) f (is, k))

pub receive_fine : (z : Sessions) (now stream : ℕ) (m : Message) (r : Received) → IsMessage m → AreFine z → AreFine (after_receive z now stream m r)
receive_fine z now stream m Kept is f = keep_fine z now m (on_stream z stream) is f
receive_fine z now stream m Ignored is f = f
receive_fine z now stream m Bad is f = f

leave_fine : (z : Sessions) (h : Handle) (o : Option SessionState) → AreFine z → AreFine (leave_at z h o)
leave_fine z h None f = f
leave_fine z h (Some x) f = set_fine z h.place None f tt

pub poll_fine : (z : Sessions) (h : Handle) (r : Result Progress SessionRefused) → AreFine z → AreFine (after_poll z h r)
poll_fine z h (Ok (Ended outcome)) f = leave_fine z h (session_at z h) f
poll_fine z h _ f = f

pub remove_fine : (z : Sessions) (h : Handle) → AreFine z → AreFine (after_remove z h)
remove_fine z h f = leave_fine z h (session_at z h) f

marked_fine : (z : Sessions) (mark : Mark) (o : Option Handle) → AreFine z → AreFine (mark_at z mark o)
marked_fine z mark None f = f
marked_fine z mark (Some h) f = by_state (session_at z h) refl (at_fine z h f) where
  by_test : (x : SessionState) (b : Bool) → AreEntries x.view.entries → AreFine (cond b (changed z h (with_transcript x (with_mark x.view mark))) z)
  by_test x true k = changed_fine z h (with_transcript x (with_mark x.view mark)) f k
  by_test x false k = f

  by_state : (o : Option SessionState) → session_at z h ≡ o → IsFine o → AreFine (mark_at z mark (Some h))
  by_state None e k = rw e f
  by_state (Some x) e k = rw e (by_test x (is_going x.view) k)

pub mark_fine : (z : Sessions) (stream : ℕ) (mark : Mark) → AreFine z → AreFine (after_mark z stream mark)
mark_fine z stream mark f = marked_fine z mark (on_stream z stream) f

pub expire_fine : (z : Sessions) (now : ℕ) → AreFine z → AreFine (after_expire z now)
expire_fine z now f = marked_fine z (Expired now) (due z now) f

pub adopt_fine : (z : Sessions) (owner : ℕ) (h : Handle) → AreFine z → AreFine (after_adopt z owner h)
adopt_fine z owner h f = by_state (session_at z h) refl (at_fine z h f) where
  by_state : (o : Option SessionState) → session_at z h ≡ o → IsFine o → AreFine (after_adopt z owner h)
  by_state None e k = rw e f
  by_state (Some x) e k = rw e (set_fine z h.place (Some (with_owner x owner)) f k)

-- the number of the session on a stream
abbrev pub IsSmall : Option (ℕ × Bool) → Type 0
IsSmall None = Unit {0}
IsSmall (Some state) = state.0 < 2 ^ 32

pub state_small : (z : Sessions) (stream : ℕ) → AreFine z → IsSmall (state_reply z stream)
state_small z stream f = by_state (found z (on_stream z stream)) refl (found_fine z (on_stream z stream) f) where
  by_state : (o : Option SessionState) → found z (on_stream z stream) ≡ o → IsFine o → IsSmall (state_reply z stream)
  by_state None e k = rw e tt
  by_state (Some x) e k = rw e (session_small x.view k)
