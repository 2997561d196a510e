use Rattle.grasp_model_script.proofs.OneRun.{texts_agree}
use Rattle.grasp_model_script.proofs.laws.texts_agree.Goals as goal

pub returns : goal.returns
returns c = texts_agree (record { runs = c.runs_agree.ensures; stops = c.stops_agree.ensures; scripts = c.texts_have_one_script.ensures })
