-- Where a step of a node says an acceptance: an M_END that accepts, queued for a stream (RFC 8990, section 2.8.8).
use Rattle.std.specs.Prelude.{◌≡◌, ℕ, Bool, true, false, List, [], ◌∷◌, Some, option_to_list, if◌then◌else◌}
use Rattle.grasp_session.specs.Messages.{is_acceptance}
use Rattle.grasp_session.specs.Sessions.{stream_reply}
use Rattle.grasp_types.specs.declared.call.Call.{Call}
use Rattle.grasp_types.specs.declared.call.Call.TheVariants.{EndNegotiate}
use Rattle.grasp_types.specs.declared.message.Verdict.{Verdict}
use Rattle.grasp_types.specs.declared.message.Verdict.TheVariants.{Accept}
use Rattle.grasp_types.specs.declared.reply.ApiAnswer.TheVariants.{Done}
use Rattle.grasp_types.specs.declared.reply.Reply.{Reply}
use Rattle.grasp_types.specs.declared.reply.Reply.TheVariants as reply
use Rattle.grasp_types.specs.declared.session.Handle.{Handle}
use Rattle.grasp_types.specs.declared.traffic.Input.{Input}
use Rattle.grasp_types.specs.declared.traffic.Input.TheVariants as input
use Rattle.grasp_model_node.specs.Begin.{begin}
use Rattle.grasp_model_node.specs.BoundedNodes.{IsBoundedNode}
use Rattle.grasp_model_node.specs.Node.{NodeState}
use Rattle.grasp_model_node.specs.Queue.{Queued, datagram, dial, send}
use Rattle.grasp_model_node.specs.Step.{Coming, NodeStep}
use Rattle.grasp_laws_node_stories.specs.Stories.{gained}

-- the streams on which what is queued says an acceptance, oldest first
abbrev pub accepted_on : List Queued → List ℕ
accepted_on [] = []
accepted_on (datagram link to m ∷ qs) = accepted_on qs
accepted_on (dial stream to ∷ qs) = accepted_on qs
accepted_on (send stream m ∷ qs) = if is_acceptance m then stream ∷ accepted_on qs else accepted_on qs

-- the stream on which a call accepts where it is done: that of the handle's session
abbrev pub accepts_on : NodeState → Call → List ℕ
accepts_on n (EndNegotiate handle Accept) = option_to_list (stream_reply n.sessions handle)
accepts_on n _ = []

-- the call was done
abbrev pub was_done : Reply → Bool
was_done (reply.Api Done) = true
was_done _ = false

-- the streams on which an input with this reply says an acceptance
abbrev pub acceptances_of : NodeState → Input → Reply → List ℕ
acceptances_of n (input.Api asa call) r = if was_done r then accepts_on n call else []
acceptances_of n (input.Datagram link from bytes) r = []
acceptances_of n (input.Opened stream from) r = []
acceptances_of n (input.Bytes stream bytes) r = []
acceptances_of n (input.Closed stream) r = []
acceptances_of n (input.Drain max) r = []

-- a step says an acceptance where it is a call that accepts and is done, on the stream of the call's session, and nowhere else
abbrev pub AcceptancesAreCalls : Type 0
AcceptancesAreCalls = (n after : NodeState) (now : ℕ) (i : Input) (x : Coming) (r : Reply) → IsBoundedNode n → NodeStep n now i x r after
    → accepted_on (gained n after) ≡ acceptances_of n i r

-- the handle's session is live, on the same stream before the step, where the step has begun, and after it
pub record StaysOn (n : NodeState) (now : ℕ) (handle : Handle) (after : NodeState) : Type 0 where
  pub stream : ℕ
  pub before : stream_reply n.sessions handle ≡ Some stream
  pub begun : stream_reply (begin n now).sessions handle ≡ Some stream
  pub still : stream_reply after.sessions handle ≡ Some stream

-- where a call that ends its session is done, the session is so: an acceptance is said on just one stream, and which that is can be asked before and after
abbrev pub EndedSessionsStay : Type 0
EndedSessionsStay = (n after : NodeState) (now asa : ℕ) (handle : Handle) (verdict : Verdict) (x : Coming) → IsBoundedNode n
    → NodeStep n now (input.Api asa (EndNegotiate handle verdict)) x (reply.Api Done) after → StaysOn n now handle after
