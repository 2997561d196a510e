use Rattle.grasp_laws_visits.proofs.Rounds as lemmas
use Rattle.grasp_laws_visits.proofs.visit_laws.rounds_are_sittings.Goals as goal

pub returns : goal.returns
returns c = lemmas.rounds_are_sittings
