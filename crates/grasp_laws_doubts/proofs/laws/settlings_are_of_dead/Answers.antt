use Rattle.grasp_laws_doubts.proofs.First.{first_stands}
use Rattle.grasp_laws_doubts.proofs.Reached as lemmas
use Rattle.grasp_laws_doubts.proofs.laws.settlings_are_of_dead.Goals as goal

pub returns : goal.returns
returns c = lemmas.settlings_are_of_dead c.doubt_grounds_hold.ensures (λ s good. first_stands c.questions_begin.ensures s good c.initiators_tell_searches.ensures.nodes)
