use Rattle.grasp_laws_visits.proofs.Calls as lemmas
use Rattle.grasp_laws_visits.proofs.visit_laws.visitors_call_as_their_own.Goals as goal

pub returns : goal.returns
returns c = lemmas.visitors_call_as_their_own
