use Rattle.grasp_wire.specs.Stands.{waiting_count}
use Rattle.grasp_core.specs.Feeding.{Feeding, Hears, HasHeard}
use Rattle.grasp_core.proofs.node_core.NodeCore.hear_all.Given as goal

abbrev pub invariant-loop-ending : goal.invariant-loop-ending
invariant-loop-ending l = (f : Feeding) → Hears l.fn.self l.fn.cutter f → HasHeard l.stream f l.self l.cutter

abbrev pub decreases-loop-ending : goal.decreases-loop-ending
decreases-loop-ending l = waiting_count l.cutter
