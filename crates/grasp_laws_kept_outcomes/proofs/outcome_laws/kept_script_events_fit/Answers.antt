use Rattle.grasp_laws_kept_outcomes.proofs.Scripts as lemmas
use Rattle.grasp_laws_kept_outcomes.proofs.outcome_laws.kept_script_events_fit.Goals as goal

pub returns : goal.returns
returns c = lemmas.kept_script_events_fit c.script_events_fit.ensures
