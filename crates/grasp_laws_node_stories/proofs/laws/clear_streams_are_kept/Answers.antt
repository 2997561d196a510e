use Rattle.grasp_laws_node_stories.proofs.Clearing.{clear_kept}
use Rattle.grasp_laws_node_stories.proofs.laws.clear_streams_are_kept.Goals as goal

pub returns : goal.returns
returns c = clear_kept
