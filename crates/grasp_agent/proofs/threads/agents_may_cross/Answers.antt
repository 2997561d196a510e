use denote.Param.Send.{sendable}
use Rattle.grasp_agent.proofs.Crosses.{PrefixAgent-send, Beacon-send, Reader-send}
use Rattle.grasp_agent.proofs.threads.agents_may_cross.Goals as goal

pub may_go-requires-send-T : goal.may_go-requires-send-T
may_go-requires-send-T c κs = search (PrefixAgent-send, sendable) depth 20

pub may_go-requires-2-send-T : goal.may_go-requires-2-send-T
may_go-requires-2-send-T c κs = search (Beacon-send, sendable) depth 20

pub may_go-requires-3-send-T : goal.may_go-requires-3-send-T
may_go-requires-3-send-T c κs = search (Reader-send, sendable) depth 20
