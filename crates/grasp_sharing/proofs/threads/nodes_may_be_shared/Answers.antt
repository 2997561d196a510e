use denote.Param.Send.{sendable}
use Rattle.grasp_sharing.proofs.Shares.{NodeCore-sync, Table-sync}
use Rattle.grasp_sharing.proofs.threads.nodes_may_be_shared.Goals as goal

pub may_be_shared-requires-sync-T : goal.may_be_shared-requires-sync-T
may_be_shared-requires-sync-T c κs = search (NodeCore-sync c.items_may_cross.ensures.items.1, sendable) depth 20

pub may_be_shared-requires-2-sync-T : goal.may_be_shared-requires-2-sync-T
may_be_shared-requires-2-sync-T c κs = search (Table-sync c.items_may_cross.ensures.items.1, sendable) depth 20
