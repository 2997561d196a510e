use Rattle.grasp_laws_node.proofs.Meaning.Registry.{offer_means_lem}
use Rattle.grasp_laws_node.proofs.means_laws.offer_means.Goals as goal

pub returns : goal.returns
returns c = offer_means_lem
