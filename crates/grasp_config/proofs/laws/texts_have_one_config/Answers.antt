use Rattle.grasp_config.proofs.OneConfig.{one_config}
use Rattle.grasp_config.proofs.laws.texts_have_one_config.Goals as goal

pub returns : goal.returns
returns c = one_config
