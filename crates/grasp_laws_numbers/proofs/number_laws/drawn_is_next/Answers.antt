use Rattle.grasp_laws_numbers.proofs.Next as lemmas
use Rattle.grasp_laws_numbers.proofs.number_laws.drawn_is_next.Goals as goal

pub returns : goal.returns
returns c = lemmas.drawn_is_next
