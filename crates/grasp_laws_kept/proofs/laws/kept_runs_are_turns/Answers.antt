use Rattle.grasp_laws_kept.proofs.Runs as lemmas
use Rattle.grasp_laws_kept.proofs.laws.kept_runs_are_turns.Goals as goal

pub returns : goal.returns
returns c = lemmas.kept_runs_are_turns
