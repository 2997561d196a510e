use Rattle.grasp_laws_kept_outcomes.proofs.Events as lemmas
use Rattle.grasp_laws_kept_outcomes.proofs.outcome_laws.kept_events_come_out.Goals as goal

pub returns : goal.returns
returns c = lemmas.kept_events_come_out
