use Rattle.std.proofs.Common.{refl, sym, subst}
use Rattle.grasp_model_network.specs.Plans.{IsGoodPlan}
use Rattle.grasp_model_network.specs.declared.plan.WorldPlan.{WorldPlan}
use Rattle.grasp_doubts.proofs.Openings.{network_copied, opens}
use Rattle.grasp_doubts.proofs.doubt_world.DoubtWorld.open.Goals as goal

pub open-requires : goal.open-requires
open-requires c = subst (λ (p : WorldPlan). IsGoodPlan p) (sym c.in_ok-copy.ensures) c.requires

pub open_doubters-requires-clause-network : goal.open_doubters-requires-clause-network
open_doubters-requires-clause-network c = network_copied c.args.plan c.in_ok-copy.field-0 c.in_ok-world.world c.in_ok-copy.ensures c.in_ok-world.ensures

pub returns : goal.returns
returns c = opens _ c.args.plan refl c.requires c.in_ok-doubters.ensures
