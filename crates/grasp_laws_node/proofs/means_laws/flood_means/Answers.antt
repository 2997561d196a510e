use Rattle.grasp_laws_node.proofs.Meaning.Searches.{flood_means_lem}
use Rattle.grasp_laws_node.proofs.means_laws.flood_means.Goals as goal

pub returns : goal.returns
returns c = flood_means_lem
