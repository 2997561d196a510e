-- Inside: what an act in a session is to say, before it is said.
use Rattle.std.specs.Prelude.{◌≡◌, Result, Ok, Err}
use Rattle.grasp_session.specs.Transcript.{Saying}
use Rattle.grasp_types.specs.declared.refusal.ApiRefused.{ApiRefused}
use Rattle.grasp_types.specs.declared.refusal.ApiRefused.TheVariants.{OutOfMemory}
use Rattle.grasp_types.specs.declared.reply.ApiAnswer.{ApiAnswer}
use Rattle.grasp_types.specs.declared.session.Handle.{Handle}
use Rattle.grasp_model_node.specs.Answered.{IsDone}
use Rattle.grasp_model_node.specs.Node.{NodeState}
use Rattle.grasp_model_node.specs.SessionCalls.{stream_at, act_message}
use Rattle.grasp_core.specs.declared.ready.Ready.{Ready}

-- what is ready is the message by which the session says this, and the session's stream
pub record IsReady (n : NodeState) (h : Handle) (saying : Saying) (ready : Ready) : Type 0 where
  pub stream_is : ready.stream ≡ stream_at n h
  pub message_is : ready.message ≡ act_message n h saying

-- the message of the act was said, or the node was out of memory
abbrev pub IsSaid : Result ApiAnswer ApiRefused → Type 0
IsSaid (Ok a) = IsDone a
IsSaid (Err r) = r ≡ OutOfMemory

-- the call has this answer, or the node was out of memory
abbrev pub IsTaken : ApiAnswer → Result ApiAnswer ApiRefused → Type 0
IsTaken b (Ok a) = a ≡ b
IsTaken b (Err r) = r ≡ OutOfMemory
