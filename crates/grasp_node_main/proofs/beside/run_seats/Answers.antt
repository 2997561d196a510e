use Rattle.std.proofs.Common.{subst, sym}
use denote.Param.Send.{sendable}
use Rattle.std.proofs.Crossing.{crosses}
use Rattle.grasp_shared.proofs.Crosses.{Shared-sync}
use Rattle.grasp_node_main.proofs.Crosses.{SeatedAgent-send, Pace-sync}
use Rattle.grasp_node_main.specs.Sharing.{HasPass}
use Rattle.grasp_node_main.proofs.beside.run_seats.Goals as goal

pub for_each_mut-requires-send-T : goal.for_each_mut-requires-send-T
for_each_mut-requires-send-T g c κs within = search (SeatedAgent-send, sendable) depth 20

pub for_each_mut-requires-sync-F : goal.for_each_mut-requires-sync-F
for_each_mut-requires-sync-F g c κs within = search (Shared-sync, Pace-sync, sendable, crosses) depth 60 fits 30000

pub for_each_mut-requires-clause-accepts : goal.for_each_mut-requires-clause-accepts
for_each_mut-requires-clause-accepts g c κs within = λ i p lt at. subst (HasPass c.args.shared.now) (sym at) (c.requires i p.now lt)
