use Rattle.grasp_model_node.proofs.OneAddition.{same_messages_come}
use Rattle.grasp_laws_node.proofs.refusal_laws.same_messages_come.Goals as goal

pub returns : goal.returns
returns c = same_messages_come
