use Rattle.grasp_replay_main.proofs.Tasks as tasks
use Rattle.grasp_replay_main.proofs.laws.tasks_are_functions.Goals as goal

pub returns-clause-one : goal.returns-clause-one
returns-clause-one c = tasks.tasks_are_functions c.texts_agree.ensures c.runs_or_stops.ensures c.audits_agree.ensures

pub returns-clause-well : goal.returns-clause-well
returns-clause-well c = tasks.whole_inputs_end_well c.audits_agree.ensures
