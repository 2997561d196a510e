use Rattle.grasp_laws_doubts.proofs.First.{first_stands}
use Rattle.grasp_doubts.proofs.Ranges.{call_is}
use Rattle.grasp_doubts.proofs.calling.calls_fit.Goals as goal

pub returns : goal.returns
returns c = λ s x h node member d is. call_is c.doubt_grounds_hold.ensures (λ t good. first_stands c.questions_begin.ensures t good c.initiators_tell_searches.ensures.nodes) s x h node member d is
