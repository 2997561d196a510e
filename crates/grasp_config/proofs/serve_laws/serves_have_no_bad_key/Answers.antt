use Rattle.grasp_config.proofs.OneServe.{no_bad_serve_key}
use Rattle.grasp_config.proofs.serve_laws.serves_have_no_bad_key.Goals as goal

pub returns : goal.returns
returns c = no_bad_serve_key
