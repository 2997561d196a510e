use Rattle.std.proofs.Common.{take}
use Rattle.grasp_node_main.specs.Plans.{AreWantsOf}
use Rattle.grasp_node_main.proofs.planning.want_plans.Given as goal

abbrev pub invariant-loop-want : goal.invariant-loop-want
invariant-loop-want l = AreWantsOf (take l.want-index l.wants) l.plans
