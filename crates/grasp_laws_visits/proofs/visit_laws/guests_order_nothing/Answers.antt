use Rattle.grasp_laws_visits.proofs.Guests as lemmas
use Rattle.grasp_laws_visits.proofs.visit_laws.guests_order_nothing.Goals as goal

pub returns : goal.returns
returns c = lemmas.guests_order_nothing
