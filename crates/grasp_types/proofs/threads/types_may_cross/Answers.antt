use denote.Param.Send.{sendable}
use Rattle.grasp_types.proofs.Crosses.{Message-send, Input-send, Reply-send}
use Rattle.grasp_types.proofs.threads.types_may_cross.Goals as goal

pub may_go-requires-send-T : goal.may_go-requires-send-T
may_go-requires-send-T c κs = search (Message-send, sendable) depth 20

pub may_go-requires-2-send-T : goal.may_go-requires-2-send-T
may_go-requires-2-send-T c κs = search (Input-send, sendable) depth 20

pub may_go-requires-3-send-T : goal.may_go-requires-3-send-T
may_go-requires-3-send-T c κs = search (Reply-send, sendable) depth 20
