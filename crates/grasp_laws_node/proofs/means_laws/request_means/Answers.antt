use Rattle.grasp_laws_node.proofs.Meaning.Requests.{request_means_lem}
use Rattle.grasp_laws_node.proofs.means_laws.request_means.Goals as goal

pub returns : goal.returns
returns c = request_means_lem
