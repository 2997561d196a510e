use Rattle.grasp_laws_doubts.proofs.First.{first_settled, first_stands}
use Rattle.grasp_laws_settled.proofs.Resolved as lemmas
use Rattle.grasp_laws_settled.proofs.laws.each_doubt_is_resolved.Goals as goal

pub returns : goal.returns
returns c =
    lemmas.each_doubt_is_resolved c.doubt_grounds_hold.ensures (λ s good. first_stands c.questions_begin.ensures s good c.initiators_tell_searches.ensures.nodes)
    (λ s good. first_settled c.questions_begin.ensures s good)
