-- What an agent was told of its session, and how a closed side of a stream stays.
use Rattle.std.specs.Prelude.{◌≡◌, ◌⊎◌, ℕ, Contains, List, Option, Some, None}
use Rattle.grasp_model_node.specs.Begin.{begin}
use Rattle.grasp_laws_node.specs.Beginnings.{IsDue}
use Rattle.grasp_laws_node.specs.Means.{Holds}
use Rattle.grasp_model_node.specs.Node.{NodeState}
use Rattle.grasp_session.specs.Messages.{Side, other}
use Rattle.grasp_session.specs.Sessions.{SessionState, Sessions, session_at, session_owned, with_transcript}
use Rattle.grasp_session.specs.Transcript.{Expired, outcome_of, with_mark}
use Rattle.grasp_types.specs.declared.call.Call.TheVariants as call
use Rattle.grasp_text.specs.Line.{objective_words}
use Rattle.grasp_types.specs.declared.objective.Objective.{Objective}
use Rattle.grasp_types.specs.declared.session.By.{By}
use Rattle.grasp_types.specs.declared.reply.ApiAnswer.TheVariants as answer
use Rattle.grasp_types.specs.declared.reply.Reply.{Reply}
use Rattle.grasp_types.specs.declared.reply.Reply.TheVariants as reply
use Rattle.grasp_types.specs.declared.session.Handle.{Handle}
use Rattle.grasp_types.specs.declared.session.Outcome.{Outcome}
use Rattle.grasp_types.specs.declared.session.Outcome.TheVariants as outcome
use Rattle.grasp_types.specs.declared.session.Progress.TheVariants as progress
use Rattle.grasp_types.specs.declared.traffic.Input.TheVariants as input
use Rattle.grasp_model_network.specs.Events.{visit_of, Occurs}
use Rattle.grasp_model_network.specs.Setting.{Setting}
use Rattle.grasp_model_network.specs.Streams.{StreamState, told_closed, end_at, side_at, sent_by}
use Rattle.grasp_model_network.specs.Visits.{Visit, Choice}
use Rattle.grasp_model_network.specs.World.{WorldState}
use Rattle.grasp_model_network.specs.declared.event.Event.{Event}
use Rattle.grasp_model_network.specs.declared.report.Report.{Report}
use Rattle.grasp_model_network.specs.declared.report.Report.TheVariants as report

-- the event comes out so, and in its step this agent polls the session with this handle and is told this outcome
pub record TellsOutcome (s : Setting) (w : WorldState) (e : Event) (c : Choice) (v : Visit) (asa : ℕ) (h : Handle) (o : Outcome) : Type 0 where
  pub occurs : Occurs s w e c
  pub visits : visit_of s w e ≡ Some v
  pub polls : v.input ≡ input.Api asa (call.Poll h)
  pub tells : c.reply ≡ reply.Api (answer.Polled (progress.Ended o))

-- the session is among those that are no longer live, and no live session has the handle
pub record IsOver (z : Sessions) (h : Handle) (x : SessionState) : Type 0 where
  pub gone : Contains z.gone x
  pub none_live : session_at z h ≡ None

-- before the step began, the agent had this live session with this handle, or the same that has timed out at the reading
pub record WasLive (n : NodeState) (now asa : ℕ) (h : Handle) (x : SessionState) : Type 0 where
  pub before : SessionState
  pub owned : session_owned n.sessions asa h ≡ Some before
  pub same : (x ≡ before) ⊎ (IsDue (begin n now).reading before × (x ≡ with_transcript before (with_mark before.view (Expired (begin n now).reading))))

-- when the step begins, at this reading, the agent is registered and has this live session with this handle, whose transcript has this
-- outcome; after the step the session is over, with this transcript
pub record WasTold (n after : NodeState) (now asa : ℕ) (h : Handle) (o : Outcome) : Type 0 where
  pub session : SessionState
  pub holds : Holds (begin n now) asa h session
  pub was : WasLive n now asa h session
  pub numbered : session.number ≡ h.number
  pub outcome : outcome_of session.view ≡ Some o
  pub over : IsOver after.sessions h session

-- in the event's step an agent polls a session and is told this agreement, whose objective has these words; and the session came to it
pub record TellsAgreement (s : Setting) (w : WorldState) (e : Event) (c : Choice) (by : By) (words : List (List ℕ)) : Type 0 where
  pub visit : Visit
  pub asa : ℕ
  pub handle : Handle
  pub objective : Objective
  pub tells : TellsOutcome s w e c visit asa handle (outcome.Agreed by objective)
  pub told : WasTold visit.seat.core c.after visit.now asa handle (outcome.Agreed by objective)
  pub rest : words ≡ objective_words objective

-- a side that was told that the stream is closed stays so, at the same end or opened nowhere, and nothing more is delivered to it
pub record StaysClosed (side : Side) (t u : StreamState) : Type 0 where
  pub closed : side_at u side ≡ told_closed
  pub end : end_at u side ≡ end_at t side
  pub delivered : (sent_by u (other side)).delivered ≡ (sent_by t (other side)).delivered

-- the reply of a node that a report tells
abbrev pub reply_in : Report → Option Reply
reply_in (report.Reply r) = Some r
reply_in (report.Agent made r) = Some r
reply_in report.Nothing = None
reply_in (report.Reading millis) = None
reply_in (report.Want taken) = None
reply_in (report.Return taken) = None
reply_in (report.Sent outputs) = None
