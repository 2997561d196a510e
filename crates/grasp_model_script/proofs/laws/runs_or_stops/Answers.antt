use Rattle.grasp_model_script.proofs.OneRun.{runs_or_stops}
use Rattle.grasp_model_script.proofs.laws.runs_or_stops.Goals as goal

pub returns : goal.returns
returns c = runs_or_stops (record { runs = c.runs_agree.ensures; stops = c.stops_agree.ensures; scripts = c.texts_have_one_script.ensures })
