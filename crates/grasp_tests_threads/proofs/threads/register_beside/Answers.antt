use denote.Param.Send.{sendable}
use Rattle.std.proofs.Crossing.{crosses}
use Rattle.grasp_shared.proofs.Crosses.{Pass-send, Shared-sync}
use Rattle.grasp_tests_threads.proofs.threads.register_beside.Goals as goal

pub join-requires-send-F : goal.join-requires-send-F
join-requires-send-F g c κs within = search (Pass-send, Shared-sync, sendable, crosses) depth 60 fits 30000

pub join-requires-send-A : goal.join-requires-send-A
join-requires-send-A g c κs within = search (Pass-send, sendable, crosses) depth 60 fits 30000
