use Rattle.grasp_laws_visits.proofs.Orders as lemmas
use Rattle.grasp_laws_visits.proofs.visit_laws.changes_were_ordered.Goals as goal

pub returns : goal.returns
returns c = lemmas.changes_were_ordered
