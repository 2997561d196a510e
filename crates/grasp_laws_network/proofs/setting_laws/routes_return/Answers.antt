use Rattle.grasp_laws_network.proofs.Routing as lemmas
use Rattle.grasp_laws_network.proofs.setting_laws.routes_return.Goals as goal

pub returns : goal.returns
returns c = lemmas.routes_return
