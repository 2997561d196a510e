use Rattle.std.proofs.Common.{refl, sym, subst}
use Rattle.grasp_model_network.specs.Plans.{IsGoodPlan}
use Rattle.grasp_model_network.specs.Runs.{world_of}
use Rattle.grasp_model_network.specs.Setting.{script_setting}
use Rattle.grasp_model_network.specs.declared.plan.WorldPlan.{WorldPlan}
use Rattle.grasp_simulator.specs.WorldStands.{WorldStands}
use Rattle.grasp_kept.specs.Nodes.{network_at}
use Rattle.grasp_kept.proofs.Openings.{opens}
use Rattle.grasp_kept.proofs.kept_world.KeptWorld.open.Goals as goal

pub open-requires : goal.open-requires
open-requires c = subst (λ (p : WorldPlan). IsGoodPlan p) (sym c.in_ok-copy.ensures) c.requires.good

pub returns-clause-opened : goal.returns-clause-opened
returns-clause-opened c =
    opens _ c.args.plan refl refl refl c.requires.good c.in_ok-keepers.ensures
    (subst (λ (p : WorldPlan). WorldStands c.in_ok-world.world (network_at (script_setting p) (world_of p))) c.in_ok-copy.ensures c.in_ok-world.ensures)
