-- A pass may go to another thread, and threads may share a registry.
use denote.Param.Send.{IsSend, IsSync, sendable}
use denote.Param.SendFields.{declared_send, declared_sync}
use Rattle.std.proofs.Crossing.{crosses}
use Rattle.atomic_table.proofs.owned.Table.TheSendSync as table
use Rattle.atomic_table.proofs.shared.Seat.TheSendSync as seat
use Rattle.grasp_core.proofs.Crosses.{NodeCore-send}
use Rattle.grasp_shared.specs.contracts.shared.Pass as Pass
use Rattle.grasp_shared.specs.contracts.shared.Root as Root
use Rattle.grasp_shared.specs.contracts.shared.Shared as Shared

pub Pass-send : IsSend Pass.the_row
Pass-send = declared_send Pass.the_type (search (NodeCore-send, seat.the_send, sendable, crosses) depth 60 fits 30000)

pub Root-send : IsSend Root.the_row
Root-send = declared_send Root.the_type (search (NodeCore-send, seat.the_send, sendable, crosses) depth 60 fits 30000)

pub Shared-sync : IsSync Shared.the_row
Shared-sync = declared_sync Shared.the_type (search (NodeCore-send, table.the_sync, sendable, crosses) depth 60 fits 30000)
