use Rattle.std.proofs.Common.{arith}
use Rattle.std.proofs.lemmas.List.Edits.{map_over_more}
use Rattle.grasp_crew.specs.Servants.{woken}
use Rattle.grasp_service.proofs.acting.wake_all.Goals as goal

pub loop-servant-preserved : goal.loop-servant-preserved
loop-servant-preserved c =
    rw (c.wake.ensures, ← c.servant-item.is) (map_over_more woken c.args.crew.now c.loop-servant.crew c.loop-servant.servant-index c.servant-item.result (omega arith) c.loop-servant.invariant c.servant-item.is)
