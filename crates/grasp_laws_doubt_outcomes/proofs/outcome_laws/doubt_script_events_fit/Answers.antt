use Rattle.grasp_laws_doubt_outcomes.proofs.Fitting as lemmas
use Rattle.grasp_laws_doubt_outcomes.proofs.outcome_laws.doubt_script_events_fit.Goals as goal

pub returns : goal.returns
returns c = lemmas.doubt_script_events_fit c.script_events_fit.ensures
