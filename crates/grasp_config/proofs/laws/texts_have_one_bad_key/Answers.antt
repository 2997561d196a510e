use Rattle.grasp_config.proofs.OneConfig.{one_bad_key}
use Rattle.grasp_config.proofs.laws.texts_have_one_bad_key.Goals as goal

pub returns : goal.returns
returns c = one_bad_key
