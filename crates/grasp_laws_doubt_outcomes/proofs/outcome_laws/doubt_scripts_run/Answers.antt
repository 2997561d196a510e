use Rattle.grasp_laws_doubt_outcomes.proofs.Scripts as lemmas
use Rattle.grasp_laws_doubt_outcomes.proofs.outcome_laws.doubt_scripts_run.Goals as goal

pub returns : goal.returns
returns c = lemmas.doubt_scripts_run c.doubt_events_come_out.ensures c.doubt_script_events_fit.ensures c.each_doubt_run_is_safe.ensures
