use Rattle.grasp_config.proofs.OneServe.{one_serve}
use Rattle.grasp_config.proofs.serve_laws.texts_have_one_serve.Goals as goal

pub returns : goal.returns
returns c = one_serve
