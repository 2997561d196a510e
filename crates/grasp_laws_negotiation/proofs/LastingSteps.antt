-- The calls in which no session begins.
use Rattle.std.proofs.Common.{ℕ, zero, suc, Bool, true, false, cond, List, [], ◌∷◌, Option, None, Some, Ok}
use Rattle.grasp_asa.specs.Answers.{names_of}
use Rattle.grasp_model_node.specs.Declines.{Declining, unlistened, declined_for, declines_of, may_decline, declined, removed, after_decline, after_declines}
use Rattle.grasp_model_node.specs.Moves.{with_registrations, with_sessions, with_discoveries, begin_closing, queue_up}
use Rattle.grasp_model_node.specs.Node.{NodeState}
use Rattle.grasp_model_node.specs.RegistryCalls.{declines_for, without_agent, without_objective, without_searches, close_stream, without_session, without_sessions, with_mark}
use Rattle.grasp_model_node.specs.SessionCalls.{after_polling, with_adopted}
use Rattle.grasp_session.specs.Sessions.{stream_reply, owner_reply, untaken_reply}
use Rattle.grasp_session.specs.Transcript.{SayEnd}
use Rattle.grasp_types.specs.declared.reply.ApiAnswer.{ApiAnswer}
use Rattle.grasp_types.specs.declared.reply.ApiAnswer.TheVariants as told
use Rattle.grasp_types.specs.declared.session.Handle.{Handle}
use Rattle.grasp_laws_node.proofs.SessionChanges.{Changes}
use Rattle.grasp_session.specs.declared.answer.Received.TheVariants.{Kept}
use Rattle.grasp_laws_negotiation.proofs.Lasting.{Lasts, self, and_then, marks_on, expires, receives, says, removes, polls, adopts}

abbrev pub LastsAt : NodeState → NodeState → Type 0
LastsAt n m = Lasts n.sessions m.sessions

pub lasting : Changes Lasts
lasting = record { self = self; and_then = and_then; marks_on = marks_on; expires = expires; keeps = λ z now stream m e. receives z now stream m Kept }

-- ---- declines

one_declines : (n : NodeState) (d : Declining) → LastsAt n (after_decline n d)
unfolding begin_closing with_sessions queue_up
one_declines n d = by_test (may_decline n d.handle) where
  by_test : (b : Bool) → LastsAt n (cond b (declined n d) (removed n d.handle))
  by_test true = says n.sessions n.reading d.handle (SayEnd (declined_for unlistened))
  by_test false = removes n.sessions d.handle

pub declines : (n : NodeState) (ds : List Declining) → LastsAt n (after_declines n ds)
unfolding after_declines
declines n [] = self n.sessions
declines n (d ∷ ds) = and_then n.sessions (after_decline n d).sessions (after_declines (after_decline n d) ds).sessions (one_declines n d) (declines (after_decline n d) ds)

-- ---- the sessions of an agent leave

closes_one : (n m : NodeState) (o : Option ℕ) → LastsAt n m → LastsAt n (close_stream m o)
unfolding begin_closing
closes_one n m None s = s
closes_one n m (Some stream) s = s

one_without : (n : NodeState) (o : Option Handle) → LastsAt n (without_session n o)
unfolding with_sessions
one_without n None = self n.sessions
one_without n (Some h) = closes_one n (removed n h) (stream_reply n.sessions h) (removes n.sessions h)

all_without : (count : ℕ) (n : NodeState) (asa : ℕ) → LastsAt n (without_sessions count n asa)
unfolding without_sessions
all_without zero n asa = self n.sessions
all_without (suc count) n asa =
    let m : NodeState = without_sessions count n asa in
    and_then n.sessions m.sessions (without_session m (owner_reply m.sessions asa)).sessions (all_without count n asa) (one_without m (owner_reply m.sessions asa))

pub deregisters : (n : NodeState) (asa : ℕ) → LastsAt n (without_sessions 64 (without_searches (after_declines (without_agent n asa) (declines_for n.sessions (names_of n.registrations asa))) asa) asa)
unfolding with_registrations with_discoveries
deregisters n asa =
    let p : NodeState = after_declines (without_agent n asa) (declines_for n.sessions (names_of n.registrations asa)) in
    and_then n.sessions p.sessions (without_sessions 64 (without_searches p asa) asa).sessions
    (declines (without_agent n asa) (declines_for n.sessions (names_of n.registrations asa))) (all_without 64 (without_searches p asa) asa)

pub deregisters_objective : (n : NodeState) (asa : ℕ) (name : List ℕ) → LastsAt n (after_declines (without_objective n asa name) (declines_of n.sessions name))
unfolding with_registrations
deregisters_objective n asa name = declines (without_objective n asa name) (declines_of n.sessions name)

pub stops : (n : NodeState) (asa : ℕ) (name : List ℕ) → LastsAt n (after_declines (with_mark n asa name false) (declines_of n.sessions name))
unfolding with_registrations
stops n asa name = declines (with_mark n asa name false) (declines_of n.sessions name)

-- ---- a listener and a poll

adopts_by : (n : NodeState) (asa : ℕ) (o : Option Handle) → LastsAt n (with_adopted n asa o)
unfolding with_sessions
adopts_by n asa None = self n.sessions
adopts_by n asa (Some h) = adopts n.sessions asa h

pub listens_for : (n : NodeState) (asa : ℕ) (name : List ℕ) → LastsAt n (with_adopted (with_mark n asa name true) asa (untaken_reply n.sessions name))
unfolding with_registrations
listens_for n asa name = adopts_by (with_mark n asa name true) asa (untaken_reply n.sessions name)

pub polls_at : (n : NodeState) (h : Handle) (a : ApiAnswer) → LastsAt n (after_polling n h (Ok a))
unfolding with_sessions
polls_at n h (told.Polled progress) = polls n.sessions h (Ok progress)
polls_at n h a = self n.sessions
