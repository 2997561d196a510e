use Rattle.grasp_laws_network.proofs.Noted as lemmas
use Rattle.grasp_laws_network.proofs.note_laws.replies_are_noted.Goals as goal

pub returns : goal.returns
returns c = lemmas.replies_are_noted
