use denote.Param.Send.{IsSend, sendable, mut_slice_send, shr_send}
use denote.Slice.{MutSlice}
use denote.Ref.{ShrRef}
use mir.Syntax.{Lifetime}
use base.Fml.{Lft}
use Rattle.std.proofs.Crossing.{crosses}
use Rattle.grasp_node_main.specs.contracts.seated_agent.SeatedAgent as SeatedAgent
use Rattle.grasp_node_main.specs.contracts.pace.Pace as Pace
use Rattle.grasp_shared.proofs.Crosses.{Shared-sync}
use Rattle.grasp_node_main.proofs.Crosses.{SeatedAgent-send, Pace-sync}
use Rattle.grasp_node_main.proofs.beside.run_beside.Goals as goal

seats_send : (ℓ : Lifetime) (κ : Lft) → IsSend (MutSlice ℓ κ SeatedAgent.the_row)
seats_send ℓ κ = mut_slice_send ℓ κ SeatedAgent.the_row SeatedAgent-send

pace_send : (ℓ : Lifetime) (κ : Lft) → IsSend (ShrRef ℓ κ Pace.the_row)
pace_send ℓ κ = shr_send ℓ κ Pace.the_row Pace-sync

pub join_mut-now-requires-send-F : goal.join_mut-now-requires-send-F
join_mut-now-requires-send-F g c κs within = search (within.0, within.1, seats_send, pace_send, SeatedAgent-send, Pace-sync, Shared-sync, sendable, crosses) depth 60 fits 30000
