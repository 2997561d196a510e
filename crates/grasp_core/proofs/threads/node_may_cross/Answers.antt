use denote.Param.Send.{sendable}
use Rattle.grasp_core.proofs.Crosses.{NodeCore-send}
use Rattle.grasp_core.proofs.threads.node_may_cross.Goals as goal

pub may_go-requires-send-T : goal.may_go-requires-send-T
may_go-requires-send-T c κs = search (NodeCore-send, sendable) depth 20
