use Rattle.std.proofs.Common.{rules}
use Rattle.grasp_service.proofs.Deeds.{acts_through}
use Rattle.grasp_service.proofs.acting.act.Goals as goal

pub returns-else-is_starved : goal.returns-else-is_starved
returns-else-is_starved g c =
    acts_through g.B.Disk.stands g.B.Disk.faults c.take_reply.result _ _ _ _ _ _ _ _ _ _ _ c.in_ok-tell.ensures.told (search rules) c.in_ok-input.ensures
    c.step_core-reply.ensures (search rules) c.take_reply.ensures.takes c.in_ok-keep_before.ensures c.take_reply.ensures.kept
