use denote.Param.Send.{sendable}
use Rattle.grasp_shared.proofs.Crosses.{Pass-send, Root-send, Shared-sync}
use Rattle.grasp_shared.proofs.threads.passes_may_cross.Goals as goal

pub may_go-requires-send-T : goal.may_go-requires-send-T
may_go-requires-send-T c κs = search (Pass-send, sendable) depth 20

pub may_go-requires-2-send-T : goal.may_go-requires-2-send-T
may_go-requires-2-send-T c κs = search (Root-send, sendable) depth 20

pub may_be_shared-requires-sync-T : goal.may_be_shared-requires-sync-T
may_be_shared-requires-sync-T c κs = search (Shared-sync, sendable) depth 20
