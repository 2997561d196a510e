use Rattle.grasp_config.proofs.SomeServe.{serve_or_bad}
use Rattle.grasp_config.proofs.serve_laws.texts_serve_or_bad.Goals as goal

pub returns : goal.returns
returns c = serve_or_bad
