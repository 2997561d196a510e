use Rattle.grasp_laws_outcomes.proofs.Scripts as lemmas
use Rattle.grasp_laws_outcomes.proofs.outcome_laws.scripts_run.Goals as goal

pub returns : goal.returns
returns c = lemmas.scripts_run c.each_run_is_safe.ensures
