use Rattle.grasp_laws_doubts.proofs.First.{first_stands}
use Rattle.grasp_laws_doubts.proofs.Reached as lemmas
use Rattle.grasp_laws_doubts.proofs.laws.doubted_are_reached.Goals as goal

pub returns : goal.returns
returns c = lemmas.doubted_are_reached c.doubt_grounds_hold.ensures (λ s good. first_stands c.questions_begin.ensures s good c.initiators_tell_searches.ensures.nodes)
