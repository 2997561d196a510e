use denote.Param.Send.{sendable}
use Rattle.grasp_session.proofs.Crosses.{Table-send}
use Rattle.grasp_session.proofs.threads.table_may_cross.Goals as goal

pub may_go-requires-send-T : goal.may_go-requires-send-T
may_go-requires-send-T c κs = search (Table-send, sendable) depth 20
