-- Forms that the answers of calls have.
use Rattle.std.specs.Prelude.{◌≡◌, Result, Ok, Err}
use Rattle.grasp_types.specs.declared.refusal.ApiRefused.{ApiRefused}
use Rattle.grasp_types.specs.declared.reply.ApiAnswer.{ApiAnswer}
use Rattle.grasp_types.specs.declared.reply.ApiAnswer.TheVariants.{Done}
use Rattle.grasp_model_node.specs.Node.{NodeState}

-- a refused call changes nothing
abbrev pub if_answered : NodeState → NodeState → Result ApiAnswer ApiRefused → NodeState
if_answered n after (Ok a) = after
if_answered n after (Err r) = n

abbrev pub IsDone : ApiAnswer → Type 0
IsDone a = a ≡ Done

abbrev pub Is : ApiAnswer → ApiAnswer → Type 0
Is b a = a ≡ b
