use Rattle.grasp_laws_kept_outcomes.proofs.Scripts as lemmas
use Rattle.grasp_laws_kept_outcomes.proofs.outcome_laws.kept_scripts_run.Goals as goal

pub returns : goal.returns
returns c = lemmas.kept_scripts_run c.script_events_fit.ensures c.each_kept_run_is_safe.ensures
