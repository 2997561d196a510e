use Rattle.grasp_laws_node.proofs.Meaning.Registry.{stop_listen_means_lem}
use Rattle.grasp_laws_node.proofs.means_laws.stop_listen_means.Goals as goal

pub returns : goal.returns
returns c = stop_listen_means_lem
