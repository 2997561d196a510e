use Rattle.std.proofs.Common.{◌≡◌, ◌++◌, map, drop}
use Rattle.std.specs.List.{All}
use Rattle.grasp_asa.specs.Answers.{names_of}
use Rattle.grasp_session.specs.Sessions.{Sessions}
use Rattle.grasp_session.specs.Stands.{Stands}
use Rattle.grasp_model_node.specs.RegistryCalls.{declines_for}
use Rattle.grasp_core.specs.Planned.{planned_as, IsPlanned}
use Rattle.grasp_core.proofs.node_core.NodeCore.plan_for.Given as goal

-- the declines of the objectives before this one are planned
abbrev pub invariant-loop-i : goal.invariant-loop-i
invariant-loop-i l = record {
  plan : (z : Sessions) → Stands l.self.table z → map planned_as l.plan.items ++ declines_for z (drop l.i (names_of l.self.registry l.asa)) ≡ declines_for z (names_of l.self.registry l.asa);
  planned : All IsPlanned l.plan.items;
}
