use Rattle.std.proofs.Common.{◌≡◌, ◌++◌, map}
use Rattle.std.specs.List.{All}
use Rattle.grasp_session.specs.Sessions.{Sessions}
use Rattle.grasp_session.specs.Stands.{Stands}
use Rattle.grasp_model_node.specs.Declines.{declines_above, declines_of}
use Rattle.grasp_core.specs.Planned.{planned_as, IsPlanned}
use Rattle.grasp_core.proofs.declining.add_declines.Given as goal

abbrev pub decreases-loop-left : goal.decreases-loop-left
decreases-loop-left l = l.left

-- what is planned, and what is left, are the plan at first and all declines of the objective
abbrev pub invariant-loop-left : goal.invariant-loop-left
invariant-loop-left l = record {
  plan : (z : Sessions) → Stands l.table z → map planned_as l.plan.items ++ declines_above z l.name l.left l.above ≡ map planned_as l.fn.plan.items ++ declines_of z l.name;
  planned : All IsPlanned l.fn.plan.items → All IsPlanned l.plan.items;
}
