use Rattle.grasp_laws_visits.proofs.Taken as lemmas
use Rattle.grasp_laws_visits.proofs.visit_laws.orders_are_taken.Goals as goal

pub returns : goal.returns
returns c = lemmas.orders_are_taken
