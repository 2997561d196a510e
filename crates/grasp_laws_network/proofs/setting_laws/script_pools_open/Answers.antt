use Rattle.grasp_laws_network.proofs.GoodPlans.{script_pool_opens}
use Rattle.grasp_laws_network.proofs.setting_laws.script_pools_open.Goals as goal

pub returns : goal.returns
returns c = script_pool_opens
