use Rattle.grasp_laws_doubts.proofs.First.{first_stands}
use Rattle.grasp_laws_doubt_outcomes.proofs.Events as lemmas
use Rattle.grasp_laws_doubt_outcomes.proofs.outcome_laws.doubt_events_come_out.Goals as goal

pub returns : goal.returns
returns c = lemmas.doubt_events_come_out c.doubt_grounds_hold.ensures (λ s good. first_stands c.questions_begin.ensures s good c.initiators_tell_searches.ensures.nodes)
