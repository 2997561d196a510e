use Rattle.grasp_laws_node_stories.proofs.Nodes.{have_stories}
use Rattle.grasp_laws_node_stories.proofs.laws.streams_have_stories.Goals as goal

pub returns : goal.returns
returns c = have_stories
